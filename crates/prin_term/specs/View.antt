-- What the program's terms and entries mean, without where their parts lie in memory.
use Rattle.std.specs.Prelude.{ℕ}
use Rattle.prin_term.specs.declared.term.Term.{Term}
use Rattle.prin_term.specs.declared.term.Term.TheVariants as code
use Rattle.prin_term.specs.declared.term.Entry.{Entry}
use Rattle.prin_term.specs.Principal.{Principal, Key, Name, And, Quoting, InRole, For}

-- the principal that a term stands for
abbrev pub principal : Term → Principal
principal (code.Key k) = Key k
principal (code.Name n) = Name n
principal (code.And' p a q b) = And (principal a) (principal b)
principal (code.Quote' p a q b) = Quoting (principal a) (principal b)
principal (code.AsRole' p a r) = InRole (principal a) r
principal (code.For' p a q b) = For (principal a) (principal b)

-- an entry of an access list: its rights, and who has them
pub record Grant : Type 0 where
  pub rights : ℕ
  pub who : Principal

-- the entry that the program's one stands for
abbrev pub grant : Entry → Grant
grant e = record { rights = e.rights; who = principal e.who }
