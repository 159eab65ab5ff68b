pub mod OrLemmas
