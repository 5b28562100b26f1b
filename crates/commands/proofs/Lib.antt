pub mod WordsLemmas
pub mod ReportLemmas
pub mod AttachLemmas
pub mod LogLemmas
pub mod MemberLemmas
pub mod StreamLemmas
