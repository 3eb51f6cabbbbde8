use Rattle.std.proofs.Common.{◌≡◌, Some, arith, length, refl, slice_get}
use Rattle.std.proofs.lemmas.Bool.{false≢true}
use Rattle.std.proofs.lemmas.Option.{slice_get_read}
use Rattle.audit_replay.proofs.SameLists.{agree_more, all_agree, disagree}
use Rattle.audit_replay.proofs.ruling.are_same.Goals as goal

pub returns-then-not-is_same : goal.returns-then-not-is_same
returns-then-not-is_same c =
    let xs = c.args.list.now in
    let ys = c.args.other.now in
    let n = c.loop-place.place in
    let x = c.index-list-place.result in
    let y = c.index-other-place.result in
    let at : slice_get xs n ≡ Some x = slice_get_read xs (length xs) n x refl (omega arith) c.index-list-place.is in
    let there : slice_get ys n ≡ Some y = slice_get_read ys (length ys) n y refl (omega (arith, c.loop-place.invariant.long)) c.index-other-place.is in
    (λ f. absurd (false≢true f), λ same. absurd (disagree xs ys n x y at there (λ s. false≢true (c.if-not-is_same.ensures.1 s)) same))

pub loop-place-preserved : goal.loop-place-preserved
loop-place-preserved c =
    let xs = c.args.list.now in
    let ys = c.args.other.now in
    let n = c.loop-place.place in
    let x = c.index-list-place.result in
    let y = c.index-other-place.result in
    let at : slice_get xs n ≡ Some x = slice_get_read xs (length xs) n x refl (omega arith) c.index-list-place.is in
    let there : slice_get ys n ≡ Some y = slice_get_read ys (length ys) n y refl (omega (arith, c.loop-place.invariant.long)) c.index-other-place.is in
    record {
      long = c.loop-place.invariant.long;
      agree = agree_more xs ys n x y at there (c.is_same.ensures.0 c.if-not-is_same.false) c.loop-place.invariant.agree;
    }

pub returns : goal.returns
returns c = (λ _. all_agree c.args.list.now c.args.other.now c.loop-place.place (omega arith) c.loop-place.invariant.long c.loop-place.invariant.agree, λ _. refl)
