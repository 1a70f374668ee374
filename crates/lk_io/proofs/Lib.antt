pub mod FolderLemmas
mod StreamLemmas
