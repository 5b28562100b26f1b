mod Kept
mod Lines
mod NickCuts
