-- What since values, epochs, scaling and the due test mean.
pub mod Since
pub mod Epoch
pub mod Compared
pub mod inner
