-- What the anchors alone say of keys and names.
use Rattle.std.specs.Prelude.{◌≡◌, ◌↔◌, ℕ, List, [], Contains}
use Rattle.prin_term.specs.declared.term.Anchor.{Anchor}
use Rattle.prin_term.specs.Principal.{Principal, Key, Name}
use Rattle.taos_calculus.specs.Rules.{SpeaksFor, Derivable}

-- a key or a name
abbrev pub IsAtom : Principal → Type 0
IsAtom (Key k) = Unit {0}
IsAtom (Name n) = Unit {0}
IsAtom _ = ⊥

-- the anchor of a key to a name
abbrev pub anchor_of : ℕ → ℕ → Anchor
anchor_of key name = record { key = key; name = name }

-- w is the key k, or a name that some anchor gives to the key k
abbrev pub IsAnchoredTo : List Anchor → ℕ → Principal → Type 0
IsAnchoredTo anchors k (Key j) = j ≡ k
IsAnchoredTo anchors k (Name n) = Contains anchors (anchor_of k n)
IsAnchoredTo anchors k _ = ⊥

-- w is an atom: without a certificate it is derivable that the key k speaks for w exactly where w
-- is the key k or a name that some anchor gives to it
abbrev pub AtomIsDecided : List Anchor → ℕ → Principal → Type 0
AtomIsDecided anchors k w =
    IsAtom w → Derivable anchors [] (SpeaksFor (Key k) w) ↔ IsAnchoredTo anchors k w
