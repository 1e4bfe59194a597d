pub mod PreimageList
