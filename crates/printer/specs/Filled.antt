-- What reading on from a place of a buffer leaves: the bytes before it, what the reader gave after them, and no more bytes than the buffer has.
use Rattle.std.specs.Prelude.{ℕ, ◌≤◌, min, ◌≡◌, ◌⊎◌, List, take, drop, Option, Result, Ok, Err}
use Rattle.std.specs.Io.KnownBytes.{Consumes, IsAtEnd}

abbrev pub KeptBefore : ℕ → List ℕ → List ℕ → Type 0
KeptBefore at old new = take at new ≡ take at old

-- so many bytes stand in the room, those before the place among them
abbrev pub Within : {E : Type 0} → ℕ → ℕ → Result ℕ E → Type 0
Within at room (Ok size) = (size ≤ room) × (min at room ≤ size)
Within at room (Err e) = Unit {0}

-- of a reader whose bytes are known: those from the place on are the next that it had, in their order, and it has the rest
abbrev pub TakenFrom : {E : Type 0} → Option (List ℕ) → Option (List ℕ) → ℕ → List ℕ → Result ℕ E → Type 0
TakenFrom before after at bytes (Ok size) = Consumes before after (drop at (take size bytes))
TakenFrom before after at bytes (Err e) = Unit {0}

-- of such a reader nothing is left unread but where the buffer is full; where it cannot be read, neither this nor `TakenFrom` says anything
abbrev pub ToTheEnd : {E : Type 0} → Option (List ℕ) → ℕ → Result ℕ E → Type 0
ToTheEnd after room (Ok size) = (size ≡ room) ⊎ IsAtEnd after
ToTheEnd after room (Err e) = Unit {0}
