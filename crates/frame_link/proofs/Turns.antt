-- What stands between two frames, and one frame more.
use Rattle.std.proofs.Common.{◌≡◌, ℕ, ◌+◌, ◌≤◌, List, [], ◌∷◌, ◌++◌, length, refl, sym, ap, subst, ◌∙◌, append-nil}
use Rattle.std.specs.Prelude.{Option, All}
use Rattle.std.specs.Io.KnownBytes.{Consumes, Appends}
use Rattle.std.proofs.KnownBytes.{Consumes-nil, Consumes-trans, Appends-nil, Appends-trans}
use Rattle.std.proofs.lemmas.Grind.{flat_map-append}
use Rattle.std.proofs.lemmas.List.{length-append, map_push}
use Rattle.std.proofs.lemmas.List.Concat.{flat_map-cons}
use Rattle.std.proofs.lemmas.List.Elements.{All-push, All-nil}
use Rattle.frame_link.specs.declared.frame.Next.TheVariants as next
use Rattle.frame_link.specs.declared.service.TheConstants.{MAX_PAYLOAD}
use Rattle.frame_link.specs.Frames.{frame, framed}
use Rattle.frame_link.specs.Next.{TakesFrame}
use Rattle.frame_link.specs.Served.{Line, Turn, payloads_of, replies_of, Chain}

pub payloads_on : (turns : List Turn) (t : Turn) → payloads_of (turns ++ t ∷ []) ≡ payloads_of turns ++ t.payload ∷ []
payloads_on turns t = map_push (λ (t : Turn). t.payload) turns t

pub replies_on : (turns : List Turn) (t : Turn) → replies_of (turns ++ t ∷ []) ≡ replies_of turns ++ t.reply ∷ []
replies_on turns t = map_push (λ (t : Turn). t.reply) turns t

pub framed_on : (payloads : List (List ℕ)) (payload : List ℕ) → framed (payloads ++ payload ∷ []) ≡ framed payloads ++ frame payload
framed_on payloads payload = flat_map-append frame payloads (payload ∷ []) ∙ ap (λ (l : List ℕ). framed payloads ++ l) (flat_map-cons frame payload [] ∙ append-nil (frame payload))

-- one payload more was taken
pub taken_on : (payloads : List (List ℕ)) (payload : List ℕ) (in0 in1 in2 : Option (List ℕ)) → Consumes in0 in1 (framed payloads) → Consumes in1 in2 (frame payload) → Consumes in0 in2 (framed (payloads ++ payload ∷ []))
taken_on payloads payload in0 in1 in2 taken more =
    subst (Consumes in0 in2) (sym (framed_on payloads payload)) (Consumes-trans in0 in1 in2 (framed payloads) (frame payload) taken more)

module _ {S : Type 0} (answers : S → List ℕ → List ℕ → S → Type 0) where
  pub chain_on : (a b c : S) (turns : List Turn) (t : Turn) → Chain answers a turns b → answers b t.payload t.reply c → Chain answers a (turns ++ t ∷ []) c
  chain_on a b c [] t chain more = (c, subst (λ (s : S). answers s t.payload t.reply c) chain more, refl)
  chain_on a b c (turn ∷ turns) t chain more = (chain.0, chain.1, chain_on chain.0 b c turns t chain.2 more)

  -- what stands after so many whole frames were taken and answered
  pub record Progress (count : ℕ) (before after : Line S) : Type 0 where
    pub turns : List Turn
    pub chain : Chain answers before.service turns after.service
    pub taken : Consumes before.input.told after.input.told (framed (payloads_of turns))
    pub within : All (λ p. length p ≤ MAX_PAYLOAD) (payloads_of turns)
    pub counted : length turns ≡ count
    pub wrote : Appends before.output.told after.output.told (framed (replies_of turns))

  pub started : (l : Line S) → Progress 0 l l
  started l = record {
    turns = [];
    chain = refl;
    taken = Consumes-nil l.input.told;
    within = All-nil (λ p. length p ≤ 65536);
    counted = refl;
    wrote = Appends-nil l.output.told;
  }

  pub goes_on : (count : ℕ) (l0 l1 l2 : Line S) (payload reply : List ℕ) → Progress count l0 l1 → TakesFrame 65536 l1.input l2.input payload next.Frame →
      answers l1.service payload reply l2.service → Appends l1.output.told l2.output.told (frame reply) → Progress (count + 1) l0 l2
  goes_on count l0 l1 l2 payload reply p came answered wrote =
      let t : Turn = record { payload = payload; reply = reply } in
      record {
        turns = p.turns ++ t ∷ [];
        chain = chain_on l0.service l1.service l2.service p.turns t p.chain answered;
        taken = subst (λ (l : List (List ℕ)). Consumes l0.input.told l2.input.told (framed l)) (sym (payloads_on p.turns t)) (taken_on (payloads_of p.turns) payload l0.input.told l1.input.told l2.input.told p.taken came.1);
        within = subst (λ (l : List (List ℕ)). All (λ p. length p ≤ 65536) l) (sym (payloads_on p.turns t)) (All-push (λ p. length p ≤ 65536) (payloads_of p.turns) payload p.within came.0);
        counted = length-append p.turns (t ∷ []) ∙ ap (λ n. n + 1) p.counted;
        wrote = subst (Appends l0.output.told l2.output.told) (sym (ap framed (replies_on p.turns t) ∙ framed_on (replies_of p.turns) reply))
            (Appends-trans l0.output.told l1.output.told l2.output.told (framed (replies_of p.turns)) (frame reply) p.wrote wrote);
      }
