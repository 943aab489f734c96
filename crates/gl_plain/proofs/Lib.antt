pub mod GivenWay
pub mod Places
pub mod Stack
