pub mod Port
pub mod ProxyLine
