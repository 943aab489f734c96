pub mod OneOrder
pub mod SomeOrder
pub mod Standing
