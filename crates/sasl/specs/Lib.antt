pub mod Login
pub mod Offer
pub mod Response
pub mod Said
