pub mod Hmac
pub mod HmacText
pub mod Crc
