-- The compounds of two principals by one name, where they go alike.
use Rattle.std.specs.Prelude.{ℕ}
use Rattle.prin_term.specs.Principal as principals
use Rattle.prin_term.specs.Principal.{Principal}

-- a compound of two principals
pub data Kind : Type 0 where
  And : Kind
  Quoting : Kind
  For : Kind

-- the compound of a kind and two principals
abbrev pub pair : Kind → Principal → Principal → Principal
pair And a b = principals.And a b
pair Quoting a b = principals.Quoting a b
pair For a b = principals.For a b

-- the first byte of its spelling
abbrev pub tag_of : Kind → ℕ
tag_of And = 3
tag_of Quoting = 4
tag_of For = 6
