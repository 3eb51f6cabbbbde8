-- A row of a statement is begun speaker by speaker.
use Rattle.std.proofs.Common.{◌≡◌, ℕ, ◌+◌, ◌<◌, List, Some, slice_get, length, sym, ap, subst, below_more}
use Rattle.std.proofs.lemmas.Option.{slice_get-get_or, slice_get_within}
use Rattle.term_pool.specs.declared.cited.Cited.{Cited}
use Rattle.term_pool.specs.Claims.{cited_or}
use Rattle.goal_search.specs.Reasons.{About, IsAlike}
use Rattle.goal_search.specs.Searching.{Core, about, Has, IsBegun, IsFilled, from_speakers}

-- each certificate before this one that makes the statement has its speaker in the row
abbrev pub SpeakersTo : Core → Core → ℕ → ℕ → Type 0
SpeakersTo s t number n =
    (i : ℕ) → i < n → (c d : Cited) → slice_get s.cited i ≡ Some c → slice_get s.cited number ≡ Some d → IsAlike c d → Has t (length s.nodes + number) c.speaker

module _ (s t u : Core) (number n : ℕ) (first : IsFilled s t) (then : IsFilled t u) where
  same_cited : t.cited ≡ s.cited
  same_cited = ap (λ (a : About). a.cited) first.grown.about_is

  pub speakers_next : SpeakersTo s t number n →
      ((c d : Cited) → slice_get t.cited n ≡ Some c → slice_get t.cited number ≡ Some d → IsAlike c d → Has u (length t.nodes + number) c.speaker) → SpeakersTo s u number (n + 1)
  speakers_next before now =
      below_more
      (λ (i : ℕ). (c d : Cited) → slice_get s.cited i ≡ Some c → slice_get s.cited number ≡ Some d → IsAlike c d → Has u (length s.nodes + number) c.speaker) n
      (λ i b c d e f alike. then.grown.kept (length s.nodes + number) c.speaker (before i b c d e f alike))
      (λ c d e f alike. subst (λ (m : ℕ). Has u (m + number) c.speaker) first.grown.nodes_count
      (now c d (subst (λ (xs : List Cited). slice_get xs n ≡ Some c) (sym same_cited) e) (subst (λ (xs : List Cited). slice_get xs number ≡ Some d) (sym same_cited) f) alike))

pub speakers_begun : (s u : Core) (number : ℕ) → number < length s.cited → IsFilled s u → SpeakersTo s u number (length s.cited) → IsBegun (about u) (Has u) (length s.nodes + number)
speakers_begun s u number inside filled all =
    let d : Cited = cited_or s.cited number in
    let there : slice_get s.cited number ≡ Some d = slice_get-get_or s.cited number (record { place = 0; speaker = 0; left = 0; right = 0 }) inside in
    let same : u.cited ≡ s.cited = ap (λ (a : About). a.cited) filled.grown.about_is in
    from_speakers {d = d} number (rw same there) (ap (λ (m : ℕ). m + number) (sym filled.grown.nodes_count))
    (λ i c e alike. let f : slice_get s.cited i ≡ Some c = subst (λ (xs : List Cited). slice_get xs i ≡ Some c) same e in
    all i (slice_get_within s.cited i c f) c d f there alike)
