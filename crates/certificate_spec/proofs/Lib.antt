pub mod OneOrder
pub mod OneCertificate
pub mod PlainCertificates
