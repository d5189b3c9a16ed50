-- The walk over a set's members, of which words has the laws: the lowest, and then the rest, which is less.
pub use Rattle.words.proofs.Bits.{lowest_or_rest, lowest_in, rest_in, rest_less}
