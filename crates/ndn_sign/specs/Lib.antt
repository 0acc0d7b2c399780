pub mod Hmac
pub mod Prepared
pub mod Ring
