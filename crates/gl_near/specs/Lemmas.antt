-- Lemmas on which the definitions of traits rest.
pub mod NearLines
