-- the rows were put in order
use Rattle.std.proofs.Common.{map, rules}
use Rattle.std.proofs.lemmas.List.Sorted.{IsNonDecreasingBy-from_sort_by_key}
use Rattle.object_core.specs.declared.rows.Row.{Row}
use Rattle.object_core.specs.Shelving.{fixed_of, numbers_of}
use Rattle.object_core.proofs.FindingRows.{rows_moved}
use Rattle.object_core.proofs.rows.rows_of.Goals as goal

pub returns-clause-rows : goal.returns-clause-rows
returns-clause-rows c =
    rows_moved (numbers_of (map fixed_of c.args.objects.now)) c.in_ok-rows.rows.items c.sort_unstable_by_key.new.self.items c.sort_unstable_by_key.ensures.permutation c.in_ok-rows.ensures

pub returns-clause-ascending : goal.returns-clause-ascending
returns-clause-ascending c =
    IsNonDecreasingBy-from_sort_by_key (λ (r : Row). r.number) _ c.sort_unstable_by_key.ensures.sorted (λ a r q k. search rules)
