mod ByteLemmas
mod DigitLemmas
mod SplitLemmas
mod LineLemmas
mod LineBufferLemmas
mod ServeLemmas
mod EndLemmas
