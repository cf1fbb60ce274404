-- lemmas that callers cite, from one place
pub use Rattle.iddqd.proofs.LiveItemLemmas
pub use Rattle.iddqd_driver.proofs.RunLemmas
