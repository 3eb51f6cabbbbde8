-- What reading the entries of a list gives, one after another.
use Rattle.std.proofs.Common.{◌≡◌, ◌≢◌, ℕ, suc, ◌+◌, ◌-◌, ◌<◌, ◌≤◌, List, [], ◌∷◌, ◌++◌, length, Result, Ok, Err, refl, sym, ◌∙◌, ap, inl, inr, arith}
use Rattle.byte_fields.specs.Steps.{◌>>=◌, Gives, with_value}
use Rattle.prin_term.specs.View.{Grant}
use Rattle.prin_text.specs.declared.fault.TextCause.TheVariants.{Rights, TooMany}
use Rattle.prin_text.specs.declared.fault.TextFault.{TextFault}
use Rattle.prin_text.specs.declared.fault.TextFault.TheVariants.{Bad, NoMemory}
use Rattle.prin_text.specs.declared.limits.TheConstants.{MAX_ENTRIES}
use Rattle.prin_text.specs.Labels.{Labels}
use Rattle.prin_text.specs.Lists.{entries_at, entry_at, further, list_in, list_of}
use Rattle.prin_text.specs.Tokens.{Placed, StopsAt, first_place, tokens_from}
use Rattle.prin_text.proofs.Scans.{no_tokens}
use Rattle.prin_text.proofs.Stops.{semicolon_token}

-- a step that takes no memory gives what it is
pub gives_same : {X Y : Type 0} (view : X → Y) (r : Result X TextFault) (read : Result Y TextFault) → read ≡ with_value view r → Gives NoMemory view r read
gives_same view (Ok x) read e = e
gives_same view (Err f) read e = inr e

-- a list that has a token is read entry by entry
list_some : (labels : Labels) (end : ℕ) (ts : List Placed) → first_place ts end ≢ end → list_of labels end ts ≡ entries_at labels end MAX_ENTRIES [] ts
list_some labels end [] other = absurd (other refl)
list_some labels end (t ∷ ts) other = refl

module _ (labels : Labels) (bytes : List ℕ) where
  -- where there is no token there is no entry
  pub no_entry : (start at : ℕ) → tokens_from bytes start ≡ tokens_from bytes at → start ≡ length bytes → entry_at labels (length bytes) (tokens_from bytes at) ≡ Err (Bad start Rights)
  unfolding entry_at
  no_entry start at same is = ap (entry_at labels (length bytes)) (sym same ∙ no_tokens bytes start (omega arith)) ∙ ap (λ n. Err (Bad n Rights)) (sym is)

  pub no_list : (start : ℕ) → tokens_from bytes start ≡ tokens_from bytes 0 → start ≡ length bytes → list_in labels bytes ≡ Ok []
  unfolding list_in
  no_list start same is = ap (list_of labels (length bytes)) (sym same ∙ no_tokens bytes start (omega arith))

  pub some_list : (start : ℕ) → start ≡ first_place (tokens_from bytes 0) (length bytes) → start ≢ length bytes → list_in labels bytes ≡ entries_at labels (length bytes) MAX_ENTRIES [] (tokens_from bytes 0)
  unfolding list_in
  some_list start first other = list_some labels (length bytes) (tokens_from bytes 0) (λ e. other (first ∙ e))

  -- an entry more, after k of them
  one_more : (k at : ℕ) (before : List Grant) → k < MAX_ENTRIES →
      entries_at labels (length bytes) (MAX_ENTRIES - k) before (tokens_from bytes at)
      ≡ (entry_at labels (length bytes) (tokens_from bytes at) >>= λ x.
      further (entries_at labels (length bytes) (MAX_ENTRIES - (k + 1))) (before ++ x.0 ∷ []) x.1)
  unfolding entries_at
  one_more k at before lt =
      let left : MAX_ENTRIES - k ≡ suc (MAX_ENTRIES - (k + 1)) = omega arith in
      ap (λ n. entries_at labels (length bytes) n before (tokens_from bytes at)) left

  pub entry_fails : (k at : ℕ) (before : List Grant) (f : TextFault) → k < MAX_ENTRIES → entry_at labels (length bytes) (tokens_from bytes at) ≡ Err f → entries_at labels (length bytes) (MAX_ENTRIES - k) before (tokens_from bytes at) ≡ Err f
  entry_fails k at before f lt e = one_more k at before lt ∙ ap (λ r. r >>= λ x. further (entries_at labels (length bytes) (MAX_ENTRIES - (k + 1))) (before ++ x.0 ∷ []) x.1) e

  pub entry_is_last : (k at stop : ℕ) (before : List Grant) (e : Grant) → k < MAX_ENTRIES →
      entry_at labels (length bytes) (tokens_from bytes at) ≡ Ok (e, tokens_from bytes stop) →
      length bytes ≤ stop → entries_at labels (length bytes) (MAX_ENTRIES - k) before
      (tokens_from bytes at) ≡ Ok (before ++ e ∷ [])
  entry_is_last k at stop before e lt read le =
      one_more k at before lt ∙ ap (λ r. r >>= λ x. further (entries_at labels (length bytes) (MAX_ENTRIES - (k + 1))) (before ++ x.0 ∷ []) x.1) (read ∙ ap (λ ts. Ok (e, ts)) (no_tokens bytes stop le))

  pub entry_goes_on : (k at stop : ℕ) (before : List Grant) (e : Grant) → k < MAX_ENTRIES →
      entry_at labels (length bytes) (tokens_from bytes at) ≡ Ok (e, tokens_from bytes stop) →
      StopsAt bytes stop → stop ≢ length bytes →
      entries_at labels (length bytes) (MAX_ENTRIES - k) before (tokens_from bytes at)
      ≡ entries_at labels (length bytes) (MAX_ENTRIES - (k + 1)) (before ++ e ∷ [])
      (tokens_from bytes (stop + 1))
  entry_goes_on k at stop before e lt read (inl is) other = absurd (other is)
  entry_goes_on k at stop before e lt read (inr is) other =
      one_more k at before lt ∙ ap (λ r. r >>= λ x. further (entries_at labels (length bytes) (MAX_ENTRIES - (k + 1))) (before ++ x.0 ∷ []) x.1) (read ∙ ap (λ ts. Ok (e, ts)) (semicolon_token bytes stop is.0 is.1))

  pub too_many : (k at : ℕ) (before : List Grant) → MAX_ENTRIES ≤ k → entries_at labels (length bytes) (MAX_ENTRIES - k) before (tokens_from bytes at) ≡ Err (Bad (first_place (tokens_from bytes at) (length bytes)) TooMany)
  unfolding entries_at
  too_many k at before le =
      let none : MAX_ENTRIES - k ≡ 0 = omega arith in
      ap (λ n. entries_at labels (length bytes) n before (tokens_from bytes at)) none

-- where the offset stops and is not the end, something stands there
pub stop_below : (bytes : List ℕ) (stop : ℕ) → StopsAt bytes stop → stop ≢ length bytes → stop + 1 ≤ length bytes
stop_below bytes stop (inl is) other = absurd (other is)
stop_below bytes stop (inr is) other = omega (arith, is.0)
