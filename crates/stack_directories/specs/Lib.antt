pub mod Directing
