mod LabelLemmas
mod Appended
