mod Digits
mod Families
mod Named
mod Readings
mod Words
