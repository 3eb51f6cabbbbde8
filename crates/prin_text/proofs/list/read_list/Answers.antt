use Rattle.std.proofs.Common.{◌∷◌, ◌+◌, ◌-◌, [], List, Ok, Err, length, map, sym, ap, ◌∙◌, inl, inr, arith}
use Rattle.std.proofs.lemmas.List.{map-append}
use Rattle.std.proofs.lemmas.Result.{err_from_is_err_and}
use Rattle.prin_term.specs.declared.term.Entry.{Entry}
use Rattle.prin_term.specs.View.{grant}
use Rattle.prin_text.specs.declared.fault.TextCause.TheVariants.{TooMany}
use Rattle.prin_text.specs.declared.fault.TextFault.TheVariants.{Bad}
use Rattle.prin_text.specs.declared.limits.TheConstants.{MAX_ENTRIES}
use Rattle.prin_text.specs.Lists.{entries_at, list_in}
use Rattle.prin_text.specs.Tokens.{tokens_from}
use Rattle.prin_text.proofs.Entries.{entry_fails, entry_goes_on, entry_is_last, no_list, some_list, stop_below, too_many}
use Rattle.prin_text.proofs.list.read_list.Goals as goal

-- there is no token
pub returns-then-skip_blanks-bytes : goal.returns-then-skip_blanks-bytes
returns-then-skip_blanks-bytes c = record {
  exact = ap (list_in c.args.names.now) (sym c.as_bytes-bytes.ensures.value)
      ∙ no_list c.args.names.now c.as_bytes-bytes.result.now c.skip_blanks.result c.skip_blanks.ensures.tokens c.if-skip_blanks-bytes.true
      ∙ ap (λ (l : List Entry). Ok (map grant l)) (sym c.new-entries.ensures.items);
}

-- an entry is refused
pub returns-in_err-entry : goal.returns-in_err-entry
returns-in_err-entry c =
    let p = err_from_is_err_and c.from_residual.result c.from_residual.ensures.1 in
    let bytes = c.as_bytes-bytes.result.now in
    let whole = ap (list_in c.args.names.now) (sym c.as_bytes-bytes.ensures.value) ∙ some_list c.args.names.now bytes c.skip_blanks.result c.skip_blanks.ensures.first c.if-skip_blanks-bytes.false ∙ sym c.loop-count.invariant.same in
    record {
      exact = rw (p.1, p.2) (elim c.in_err-entry.ensures.value [
        | inl want ↦ inl want
        | inr read ↦ inr (whole ∙ entry_fails c.args.names.now bytes c.loop-count.count c.loop-count.at (map grant c.loop-count.entries.items) c.in_err-entry.field-0.0 c.loop-count-test.true read)
      ]);
    }

-- the last entry
pub returns-then-stop-bytes : goal.returns-then-stop-bytes
returns-then-stop-bytes c =
    let bytes = c.as_bytes-bytes.result.now in
    let whole = ap (list_in c.args.names.now) (sym c.as_bytes-bytes.ensures.value) ∙ some_list c.args.names.now bytes c.skip_blanks.result c.skip_blanks.ensures.first c.if-skip_blanks-bytes.false ∙ sym c.loop-count.invariant.same in
    record {
      exact = whole ∙ entry_is_last c.args.names.now bytes c.loop-count.count c.loop-count.at c.in_ok-entry.stop (map grant c.loop-count.entries.items) (grant c.in_ok-entry.entry) c.loop-count-test.true c.in_ok-entry.ensures.value (omega (arith, c.if-stop-bytes.true))
          ∙ ap (λ l. Ok l) (sym (ap (map grant) c.in_ok-push.ensures.items ∙ map-append grant c.loop-count.entries.items (c.in_ok-entry.entry ∷ [])));
    }

-- an entry that another follows
pub loop-count-preserved : goal.loop-count-preserved
loop-count-preserved c =
    let bytes = c.as_bytes-bytes.result.now in
    record {
      within = stop_below bytes c.in_ok-entry.stop c.in_ok-entry.ensures.stops c.if-stop-bytes.false;
      same = ap (λ l. entries_at c.args.names.now (length bytes) (MAX_ENTRIES - (c.loop-count.count + 1)) l (tokens_from bytes (c.in_ok-entry.stop + 1))) (ap (map grant) c.in_ok-push.ensures.items ∙ map-append grant c.loop-count.entries.items (c.in_ok-entry.entry ∷ []))
          ∙ sym (entry_goes_on c.args.names.now bytes c.loop-count.count c.loop-count.at c.in_ok-entry.stop (map grant c.loop-count.entries.items) (grant c.in_ok-entry.entry) c.loop-count-test.true c.in_ok-entry.ensures.value c.in_ok-entry.ensures.stops c.if-stop-bytes.false)
          ∙ c.loop-count.invariant.same;
    }

-- as many as there may be, and a `;` behind them
pub returns : goal.returns
returns c =
    let bytes = c.as_bytes-bytes.result.now in
    let whole = ap (list_in c.args.names.now) (sym c.as_bytes-bytes.ensures.value) ∙ some_list c.args.names.now bytes c.skip_blanks.result c.skip_blanks.ensures.first c.if-skip_blanks-bytes.false ∙ sym c.loop-count.invariant.same in
    record {
      exact = inr (whole ∙ too_many c.args.names.now bytes c.loop-count.count c.loop-count.at (map grant c.loop-count.entries.items) c.loop-count-test.false
          ∙ ap (λ n. Err (Bad n TooMany)) (sym c.skip_blanks-2.ensures.first) ∙ ap (λ f. Err f) (sym c.bad.ensures));
    }
