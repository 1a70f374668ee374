pub mod CallerLaws
pub mod AgreeLaws
