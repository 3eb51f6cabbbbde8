-- When reading all bytes may answer that a read failed.
use Rattle.std.specs.Prelude.{◌≡◌, ℕ, ◌≤◌, Result, Ok, Err}
use Rattle.frame_link.specs.Faults.{Rose}
use Rattle.frame_link.specs.declared.whole.Unread.{Unread}
use Rattle.frame_link.specs.declared.whole.Unread.TheVariants as unread

-- the count rose where a read failed, and else stayed as it was
abbrev pub UnreadHasCause : {T : Type 0} → (before now : ℕ) → Result T Unread → Type 0
UnreadHasCause before now (Err unread.Failed) = (before ≤ now) × Rose before now
UnreadHasCause before now _ = now ≡ before
