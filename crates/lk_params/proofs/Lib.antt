pub mod FirstLaws
pub mod ItemLaws
pub mod Steps
