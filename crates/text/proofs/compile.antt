pub mod Listings
pub mod Tables
