-- The proof that is spelled for an Ask, and an entry of its list.
use Rattle.std.proofs.Common.{◌≡◌, ◌≤◌, ℕ, List, length, map, Some, None, slice_get, sym, ap, ◌∙◌}
use Rattle.std.specs.Option.{option_map}
use Rattle.std.proofs.lemmas.Option.{slice_get-map, slice_get_past}
use Rattle.prin_term.specs.declared.term.Entry.{Entry as EntryValue}
use Rattle.prin_term.specs.Principal.{Principal}
use Rattle.prin_term.specs.View.{Grant, grant, principal}
use Rattle.stmt_codec.specs.Certificates.{Certificate}
use Rattle.taos_calculus.specs.Rules.{Line}
use Rattle.proof_cache.specs.Cached.{Cached, lease_of}
use Rattle.agent_core.specs.Caches.{who_at}
use Rattle.agent_core.specs.State.{Ask}
use Rattle.journal_bytes.specs.Events.{kept_for}

module _ (a : Ask) (list : List EntryValue) (entry : ℕ) (proof : List Line) (cites : List Certificate) (lists : a.list ≡ map grant list) where
  abbrev kept_with : Principal → Cached
  kept_with who = record { subject = a.subject; who = who; proof = proof; cites = cites; lease = lease_of cites }

  pub kept_so : (x : EntryValue) (subject who : Principal) (lease : ℕ) → slice_get list entry ≡ Some x → subject ≡ a.subject → who ≡ principal x.who → lease ≡ lease_of cites →
      Some (record { subject = subject; who = who; proof = proof; cites = cites; lease = lease }) ≡ kept_for (Some a) entry proof cites
  kept_so x subject who lease at subjects whos leases =
      let there : slice_get (map grant list) entry ≡ Some (grant x) = slice_get-map grant list entry ∙ ap (option_map grant) at in
      let w : who_at a.list entry ≡ Some (principal x.who) = ap (λ (l : List Grant). who_at l entry) lists ∙ ap (option_map (λ (g : Grant). g.who)) there in
      rw (subjects, whos, leases) (sym (ap (option_map kept_with) w))

  -- the list has no such entry
  pub none_kept : length list ≤ entry → None ≡ kept_for (Some a) entry proof cites
  none_kept past =
      let there : slice_get (map grant list) entry ≡ None = slice_get-map grant list entry ∙ ap (option_map grant) (slice_get_past list entry past) in
      let w : who_at a.list entry ≡ None = ap (λ (l : List Grant). who_at l entry) lists ∙ ap (option_map (λ (g : Grant). g.who)) there in
      sym (ap (option_map kept_with) w)
