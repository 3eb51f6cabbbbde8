use Rattle.std.proofs.Common.{◌≡◌, ◌<◌, length, false, Option, Some, None, is_some, refl, sym, ap, ◌∙◌, arith}
use Rattle.std.specs.Option.{option_map}
use Rattle.std.specs.Prelude.{IsTrue}
use Rattle.std.proofs.lemmas.Bool.{false≢true}
use Rattle.prin_text.specs.Labels.{Rows, is_label, number_of, text_of}
use Rattle.prin_text.proofs.ByMap.{Put, put_in}
use Rattle.prin_text.proofs.Gaps.{adds_in_gap, sound_in_gap}
use Rattle.prin_text.proofs.table.Table.add.Goals as goal

none_from : {A : Type 0} (o : Option A) → is_some o ≡ false → o ≡ None
none_from None e = refl
none_from (Some x) e = absurd (false≢true (sym e))

-- no row has the number, and none the text
no_text : (c : goal.In_ok-put) → text_of c.args.self.now c.args.number ≡ None
no_text c = sym c.text_of.ensures ∙ ap (option_map (λ t. t.now)) (none_from _ (sym c.is_some.ensures ∙ c.if-is_some.false))

no_number : (c : goal.In_ok-put) → number_of c.args.self.now c.args.text.now ≡ None
no_number c =
    let none = none_from _ (sym c.is_some-2.ensures ∙ c.if-is_some-2.false) in
    cc (none, c.number_of.ensures, c.as_bytes-2.ensures.value)

-- the row was put into the gap for its number
place : (c : goal.In_ok-put) → Put c.args.self.now c.args.number c.args.text.now
place c = put_in c.args.self.now c.args.number c.args.text.now c.requires.ascending (no_text c)

pub returns-clause-added : goal.returns-clause-added
returns-clause-added c =
    let p = place c in
    adds_in_gap _ _ c.args.number c.args.text.now p.at p.gap (no_number c) (c.in_ok-put.ensures.put ∙ p.put)

pub returns-clause-sound : goal.returns-clause-sound
returns-clause-sound c =
    let p = place c in
    let room_left : length c.args.self.now < c.args.room = grind (arith, c.len.ensures.len, c.if-len-room.false, c.requires.within, ap (λ (l : Rows). length l) c.self.view_is) in
    let label : IsTrue (is_label c.args.text.now) = grind (arith, c.is_label.ensures, c.if-not-is_label.ensures, c.if-not-is_label.false, c.as_bytes.ensures.value) in
    sound_in_gap _ _ c.args.number c.args.text.now p.at p.gap (no_number c) (c.in_ok-put.ensures.put ∙ p.put) c.args.room c.requires room_left (c.ranges.number.fits, label)
