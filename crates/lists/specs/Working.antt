-- What inner contracts cite, and no promise.
pub mod Combining
pub mod Lists
