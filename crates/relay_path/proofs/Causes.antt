-- The causes for which a path file is refused.
use Rattle.std.proofs.Common.{◌≡◌, ℕ, List, [], length, Result, Err, refl, subst, inl, inr, Some, None, cond}
use Rattle.std.specs.Prelude.{codes, nat_lt, nat_le, is_some}
use Rattle.byte_fields.proofs.Results.{chosen, err_is}
use Rattle.prin_text.specs.declared.lines.fault.FileCause.{FileCause}
use Rattle.prin_text.specs.declared.lines.fault.FileCause.TheVariants.{UnknownWord, UnknownDomain, Twice, Limit}
use Rattle.prin_text.specs.declared.lines.fault.FileFault.{FileFault}
use Rattle.prin_text.specs.declared.lines.fault.FileFault.TheVariants.{Line}
use Rattle.prin_text.specs.Fields.{one_number, some_or, two_numbers_and_key}
use Rattle.prin_text.specs.FileLines.{file_makes, is_first_line}
use Rattle.prin_text.specs.Lines.{lines_from, word_off}
use Rattle.prin_text.proofs.Causes.{IsAgainst, against, chosen_causes, key_against, makes_fault, one_causes, or_cause, plain_causes, then, two_causes, unless_causes}
use Rattle.prin_text.proofs.Causes as lines
use Rattle.relay_path.specs.declared.path_kind.PathKind.{PathKind}
use Rattle.relay_path.specs.declared.path_kind.PathKind.TheVariants as kinds
use Rattle.relay_path.specs.Domains.{DomainKnows, domain_of}
use Rattle.relay_path.specs.PathFile.{domain_cause, are_two, path_adds, peer_added, path_in, path_kind, path_step}
use Rattle.relay_path.specs.PathView.{file_cause, IsPathFault, path_cause}

-- a path file has the cause
abbrev IsCause : FileCause → Type 0
IsCause cause = file_cause (path_cause cause) ≡ cause

abbrev Causes : {A : Type 0} → Result A FileCause → Type 0
Causes r = lines.Causes IsCause r

domain_against : (above : List DomainKnows) (n : ℕ) → IsAgainst IsCause (domain_cause above n)
unfolding domain_cause
domain_against above n = against IsCause (is_some (domain_of above n)) Twice (cond (nat_le 16 (length above)) (Some Limit) None) refl (against IsCause (nat_le 16 (length above)) Limit None refl tt)

two_fields : (rest : List ℕ) → Causes (two_numbers_and_key rest)
two_fields rest = two_causes IsCause refl refl refl rest

-- the domain of a line is there
domain_there : (above : List DomainKnows) (number : ℕ) → Causes (some_or UnknownDomain (domain_of above number))
domain_there above number = or_cause IsCause UnknownDomain (domain_of above number) refl

peer_causes : (above : List DomainKnows) (number peer : ℕ) (key : List ℕ) → Causes (peer_added above number peer key)
peer_causes above number peer key = then IsCause (some_or UnknownDomain (domain_of above number)) _ (domain_there above number) (λ d. unless_causes IsCause _ _ (key_against IsCause _ d.peers peer refl refl))

adds_causes : (above : List DomainKnows) (kind : PathKind) (rest : List ℕ) → Causes (path_adds above kind rest)
adds_causes above kinds.Domain rest = then IsCause (one_number 4294967295 rest) _ (one_causes IsCause refl refl 4294967295 rest) (λ n. unless_causes IsCause (domain_cause above n) _ (domain_against above n))
adds_causes above kinds.Issuer rest = then IsCause (two_numbers_and_key rest) _ (two_fields rest) (λ x. then IsCause (some_or UnknownDomain (domain_of above x.0)) _ (domain_there above x.0) (λ d. unless_causes IsCause _ _ (key_against IsCause _ d.issuers x.1 refl refl)))
adds_causes above kinds.Node rest = then IsCause (two_numbers_and_key rest) _ (two_fields rest) (λ x. then IsCause (some_or UnknownDomain (domain_of above x.0)) _ (domain_there above x.0) (λ d. unless_causes IsCause _ _ (key_against IsCause _ d.nodes x.1 refl refl)))
adds_causes above kinds.Link rest = then IsCause (two_numbers_and_key rest) _ (two_fields rest) (λ x. chosen_causes IsCause UnknownDomain (are_two above x.0 x.1) _ refl (then IsCause (peer_added above x.1 x.0 x.2) _ (peer_causes above x.1 x.0 x.2) (λ more. peer_causes more x.0 x.1 x.2)))

step_causes : (above : List DomainKnows) (line : List ℕ) → Causes (path_step above line)
unfolding path_step
step_causes above line = then IsCause (some_or UnknownWord (path_kind (word_off line).0)) _ (or_cause IsCause UnknownWord (path_kind (word_off line).0) refl) (λ kind. plain_causes IsCause line _ refl (adds_causes above kind (word_off line).1))

pub path_fault : (bytes : List ℕ) (f : FileFault) → path_in bytes ≡ Err f → IsPathFault f
unfolding path_in
path_fault bytes f e = elim (chosen (nat_lt 4194304 (length bytes)) (Err (Line 0 Limit)) (file_makes (is_first_line (codes "taos-path")) [] path_step (lines_from bytes 0)) (Err f) e) [
  | inl long ↦ subst IsPathFault (err_is (List DomainKnows) (Line 0 Limit) f long.1) refl
  | inr short ↦ makes_fault IsCause (is_first_line (codes "taos-path")) [] path_step refl step_causes (lines_from bytes 0) f short.1
]
