-- What the exports answer and write.
pub mod Choose
pub mod Lower
pub mod Settlement
pub mod inner
