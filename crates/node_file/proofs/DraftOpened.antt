-- The opening that a draft says.
use Rattle.std.proofs.Common.{◌≡◌, ℕ, true, false, cond, List, None, Some, Ok, Err, refl, ap}
use Rattle.std.specs.Prelude.{nat_le}
use Rattle.prin_text.specs.declared.lines.fault.FileCause.TheVariants.{Limit, NoNode}
use Rattle.node_file.specs.declared.limits.TheConstants.{MAX_ROOM}
use Rattle.node_file.specs.NodeFile.{Draft, opening_said, opening_with}
use Rattle.node_file.specs.Opening.{journal_room}

pub no_node : (d : Draft) → d.settings.node ≡ None → opening_said d ≡ Err NoNode
unfolding opening_said
no_node d none = rw none refl

module _ (node : ℕ × List ℕ) (d : Draft) (there : d.settings.node ≡ Some node) where
  pub said_fits : nat_le (journal_room (opening_with node d)) MAX_ROOM ≡ true → opening_said d ≡ Ok (opening_with node d)
  unfolding opening_said
  said_fits fits = rw there (ap (λ b. cond b (Ok (opening_with node d)) (Err Limit)) fits)

  pub said_full : nat_le (journal_room (opening_with node d)) MAX_ROOM ≡ false → opening_said d ≡ Err Limit
  unfolding opening_said
  said_full full = rw there (ap (λ b. cond b (Ok (opening_with node d)) (Err Limit)) full)
