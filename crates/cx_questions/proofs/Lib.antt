pub mod Entailing
