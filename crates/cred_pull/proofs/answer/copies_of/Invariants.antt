use Rattle.std.proofs.Common.{◌≡◌, map, take}
use Rattle.taos_wire.specs.View.{text_of}
use Rattle.cred_pull.proofs.answer.copies_of.Given as goal

-- those before the place were copied
abbrev pub invariant-loop-text : goal.invariant-loop-text
invariant-loop-text l = map text_of l.copies.items ≡ map (λ t. t.now) (take l.text-index l.texts)
