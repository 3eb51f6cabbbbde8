-- What a withdrawal does, and what is kept then.
use Rattle.std.proofs.Common.{◌≡◌, ℕ, ◌+◌, ◌<◌, ◌≤◌, true, false, not, ◌==◌, nat_le, List, [], ◌∷◌, ◌++◌, length, slice_get, Some, sym, ◌∙◌, ap, subst}
use Rattle.std.proofs.lemmas.Bool.{cond-true, cond-false, le-leb, lt-leb}
use Rattle.shard_core.specs.declared.shard.store.Store.{Store}
use Rattle.agent_core.specs.declared.told.Told.{Told}
use Rattle.agent_core.specs.Held.{is_withdrawn}
use Rattle.agent_core.specs.Journals.{Entry}
use Rattle.shard_core.specs.Kept.{IsStore}
use Rattle.shard_core.specs.Names.{book, certs_named, AreNames}
use Rattle.agent_core.specs.State.{Plan, State, Withdraws, Plain, keeping, swept, removing, without_issuer, next}

module _ (plan : Plan) (s : State) (issuer : ℕ) where
  pub already : is_withdrawn s.withdrawn issuer ≡ true → next plan s (Withdraws issuer) ≡ (s, Plain (Told.Removed 0))
  already is = cond-true (is_withdrawn s.withdrawn issuer) _ _ is

  pub no_room : is_withdrawn s.withdrawn issuer ≡ false → 64 ≤ length s.withdrawn → next plan s (Withdraws issuer) ≡ (s, Plain (Told.WithdrawnFull (length s.withdrawn)))
  no_room isnt full = cond-false (is_withdrawn s.withdrawn issuer) _ _ isnt ∙ cond-true (nat_le 64 (length s.withdrawn)) _ _ (le-leb 64 (length s.withdrawn) full)

  pub withdraws : is_withdrawn s.withdrawn issuer ≡ false → length s.withdrawn < 64 → next plan s (Withdraws issuer) ≡ removing plan s (without_issuer issuer s)
  withdraws isnt room = cond-false (is_withdrawn s.withdrawn issuer) _ _ isnt ∙ cond-false (nat_le 64 (length s.withdrawn)) _ _ (lt-leb 64 (length s.withdrawn) room)

-- what is kept, with one issuer more
pub store_withdrawn : (plan : Plan) (journal : List Entry) (s : State) (store after : Store) (issuer : ℕ) → IsStore (book plan journal) (keeping (λ c. not (c.issuer == issuer)) s.clock s) store →
    after.clock ≡ store.clock → after.swept ≡ store.swept → after.commons ≡ store.commons → after.rows ≡ store.rows → after.withdrawn.items ≡ store.withdrawn.items ++ issuer ∷ [] →
    IsStore (book plan journal) (without_issuer issuer s) after
store_withdrawn plan journal s store after issuer is clock swept commons rows more =
    record {
      clock_is = clock ∙ is.clock_is;
      commons_are = subst (λ v. certs_named (book plan journal) v.items ≡ (without_issuer issuer s).commons) (sym commons) is.commons_are;
      commons_names = subst (λ v. AreNames (book plan journal) v.items) (sym commons) is.commons_names;
      withdrawn_are = more ∙ ap (λ l. l ++ issuer ∷ []) is.withdrawn_are;
      row_count = ap (λ v. length v.items) rows ∙ is.row_count;
      rows_are = λ i row c at channel. rw (clock, swept) (is.rows_are i row c (subst (λ v. slice_get v.items i ≡ Some row) rows at) channel);
    }
