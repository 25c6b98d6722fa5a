pub mod Pdu
