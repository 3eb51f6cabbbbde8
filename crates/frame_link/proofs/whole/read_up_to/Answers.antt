use Rattle.std.proofs.Common.{◌≡◌, ◌++◌, [], inl, inr, refl, ℕ, List, ap, arith, length, length-append, subst, sym, ◌∙◌}
use Rattle.std.proofs.KnownBytes.{Consumes-nil, Consumes-trans}
use Rattle.std.proofs.lemmas.Result.{err_from_is_err_and}
use Rattle.std.specs.Io.KnownBytes.{Consumes}
use Rattle.frame_link.specs.Unread.{UnreadHasCause}
use Rattle.frame_link.specs.declared.whole.Unread.{Unread}
use Rattle.frame_link.proofs.whole.read_up_to.Goals as goal

pub loop-have-init : goal.loop-have-init
loop-have-init g c = record {
  long = ap (λ (l : List ℕ). length l) c.new-bytes.ensures.items;
  within = omega arith;
  took = subst (Consumes (g.S.Source.shown c.args.source.now).told (g.S.Source.shown c.args.source.now).told) (sym c.new-bytes.ensures.items) (Consumes-nil (g.S.Source.shown c.args.source.now).told);
  steady = refl;
}

-- what was read before, and then the part
pub returns-in_err-piece-clause-part : goal.returns-in_err-piece-clause-part
returns-in_err-piece-clause-part g c =
    let i = c.loop-have.invariant in
    let p = err_from_is_err_and c.from_residual.result c.from_residual.ensures.1 in
    let found = c.in_err-piece.ensures.part in
    let a = (g.S.Source.shown c.args.source.now).told in
    let b = (g.S.Source.shown c.loop-have.source).told in
    let d = (g.S.Source.shown c.next_piece.new.source).told in
    rw p.1 (c.loop-have.bytes.items ++ found.0, omega (arith, length-append c.loop-have.bytes.items found.0, i.long, found.1, c.loop-have-test.true, c.min-wanted.ensures), Consumes-trans a b d c.loop-have.bytes.items found.0 i.took found.2)

pub returns-in_err-extend_from_slice-clause-part : goal.returns-in_err-extend_from_slice-clause-part
returns-in_err-extend_from_slice-clause-part g c =
    let i = c.loop-have.invariant in
    let p = err_from_is_err_and c.from_residual-in_err-extend_from_slice.result c.from_residual-in_err-extend_from_slice.ensures.1 in
    let piece = c.in_ok-piece.piece.items in
    let a = (g.S.Source.shown c.args.source.now).told in
    let b = (g.S.Source.shown c.loop-have.source).told in
    let d = (g.S.Source.shown c.next_piece.new.source).told in
    rw p.1 (c.loop-have.bytes.items ++ piece, omega (arith, length-append c.loop-have.bytes.items piece, i.long, c.in_ok-piece.ensures.few, c.loop-have-test.true, c.min-wanted.ensures), Consumes-trans a b d c.loop-have.bytes.items piece i.took c.in_ok-piece.ensures.read)

pub loop-have-preserved : goal.loop-have-preserved
loop-have-preserved g c =
    let i = c.loop-have.invariant in
    let piece = c.in_ok-piece.piece.items in
    let more : c.extend_from_slice.new.self.items ≡ c.loop-have.bytes.items ++ piece = c.in_ok-extend_from_slice.ensures.items ∙ ap (λ (l : List ℕ). c.loop-have.bytes.items ++ l) c.deref.ensures.value in
    let a = (g.S.Source.shown c.args.source.now).told in
    let b = (g.S.Source.shown c.loop-have.source).told in
    let d = (g.S.Source.shown c.next_piece.new.source).told in
    record {
      long = omega (arith, ap (λ (l : List ℕ). length l) more, length-append c.loop-have.bytes.items piece, i.long, c.len.ensures);
      within = omega (arith, c.in_ok-piece.ensures.few, c.min-wanted.ensures, c.loop-have-test.true, c.len.ensures);
      took = subst (Consumes a d) (sym more) (Consumes-trans a b d c.loop-have.bytes.items piece i.took c.in_ok-piece.ensures.read);
      steady = c.in_ok-piece.ensures.cause ∙ i.steady;
    }

pub returns-then-len-wanted-clause-read : goal.returns-then-len-wanted-clause-read
returns-then-len-wanted-clause-read g c =
    let i = c.loop-have.invariant in
    let piece = c.in_ok-piece.piece.items in
    let more : c.extend_from_slice.new.self.items ≡ c.loop-have.bytes.items ++ piece = c.in_ok-extend_from_slice.ensures.items ∙ ap (λ (l : List ℕ). c.loop-have.bytes.items ++ l) c.deref.ensures.value in
    let a = (g.S.Source.shown c.args.source.now).told in
    let b = (g.S.Source.shown c.loop-have.source).told in
    let d = (g.S.Source.shown c.next_piece.new.source).told in
    subst (Consumes a d) (sym more) (Consumes-trans a b d c.loop-have.bytes.items piece i.took c.in_ok-piece.ensures.read)

pub returns-then-len-wanted-clause-whole : goal.returns-then-len-wanted-clause-whole
returns-then-len-wanted-clause-whole g c = inl (c.in_ok-piece.ensures.end (omega arith))

pub returns-clause-whole : goal.returns-clause-whole
returns-clause-whole g c = inr (omega (arith, c.loop-have.invariant.long, c.loop-have.invariant.within, c.loop-have-test.false))
