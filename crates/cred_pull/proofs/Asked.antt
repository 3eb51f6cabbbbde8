-- What a payload asks for, read from left to right.
use Rattle.std.proofs.Common.{◌≡◌, ℕ, ◌<◌, ◌^◌, false, cond, ltb, List, [], ◌∷◌, ◌++◌, length, drop, Result, Ok, Err, refl, sym, ap, subst, ◌∙◌, append-nil, arith}
use Rattle.std.specs.Int.{w32, w64, to_be_bytes}
use Rattle.std.proofs.lemmas.Bool.{ltb-false, le-ltb}
use Rattle.std.proofs.lemmas.List.{drop_all}
use Rattle.byte_fields.specs.Formats.{ended, u32_in, u64_in}
use Rattle.byte_fields.specs.Steps.{◌>>=◌, mark_at}
use Rattle.byte_fields.specs.declared.fault.FormatFault.{FormatFault}
use Rattle.byte_fields.specs.declared.fault.FormatFault.TheVariants.{Malformed}
use Rattle.byte_fields.proofs.FieldLaws.{IsBytes, mark_takes, mark_again, number_takes, number_again, wide32, wide64}
use Rattle.byte_fields.proofs.Results.{bind_ok, refused_ok}
use Rattle.cred_pull.specs.FetchMessages.{fetching, asked_at, IsNoFetching}

-- the payload asks for this channel's certificates, and this number
pub record IsAskedFor (payload : List ℕ) (x : ℕ × ℕ) : Type 0 where
  pub channel : x.0 < 2 ^ 32
  pub seq : x.1 < 2 ^ 64
  pub text : payload ≡ fetching x.0 x.1

pub asked_takes : (payload : List ℕ) (x : ℕ × ℕ) → IsBytes payload → asked_at payload ≡ Ok x → IsAskedFor payload x
unfolding asked_at
asked_takes payload x fits e =
    let a = bind_ok (mark_at (ended payload) (Malformed 0) 8 payload 0) (λ at. u32_in payload at >>= λ channel. u64_in payload channel.1 >>= λ seq. cond (ltb seq.1 (length payload)) (Err (Malformed seq.1)) (Ok (channel.0, seq.0))) x e in
    let b = bind_ok (u32_in payload a.0) (λ channel. u64_in payload channel.1 >>= λ seq. cond (ltb seq.1 (length payload)) (Err (Malformed seq.1)) (Ok (channel.0, seq.0))) x a.2 in
    let d = bind_ok (u64_in payload b.0.1) (λ seq. cond (ltb seq.1 (length payload)) (Err (Malformed seq.1)) (Ok (b.0.0, seq.0))) x b.2 in
    let g = refused_ok (ltb d.0.1 (length payload)) (Malformed d.0.1) (b.0.0, d.0.0) x d.2 in
    let m = mark_takes (ended payload) (Malformed 0) 8 payload 0 a.0 a.1 in
    let n = number_takes (ended payload) w32 (2 ^ 32) wide32 payload a.0 b.0 fits b.1 in
    let k = number_takes (ended payload) w64 (2 ^ 64) wide64 payload b.0.1 d.0 fits d.1 in
    let nothing : drop d.0.1 payload ≡ [] = drop_all d.0.1 payload (ltb-false _ _ g.0) in
    let last : drop b.0.1 payload ≡ to_be_bytes w64 d.0.0 = k.0.parts ∙ ap (λ (l : List ℕ). to_be_bytes w64 d.0.0 ++ l) nothing ∙ append-nil (to_be_bytes w64 d.0.0) in
    let whole : payload ≡ fetching b.0.0 d.0.0 = m.parts ∙ ap (λ (l : List ℕ). 8 ∷ l) (n.0.parts ∙ ap (λ (l : List ℕ). to_be_bytes w32 b.0.0 ++ l) last) in
    subst (IsAskedFor payload) g.1 (record { channel = n.1; seq = k.1; text = whole })

pub asked_again : (payload : List ℕ) (channel seq : ℕ) → channel < 2 ^ 32 → seq < 2 ^ 64 → payload ≡ fetching channel seq → asked_at payload ≡ Ok (channel, seq)
unfolding asked_at
asked_again payload channel seq small fits e =
    let m = mark_again {E = FormatFault} (ended payload) (Malformed 0) 8 payload (to_be_bytes w32 channel ++ to_be_bytes w64 seq) 0 e in
    let n = number_again {E = FormatFault} (ended payload) w32 (2 ^ 32) wide32 payload (to_be_bytes w64 seq) 1 channel small (ap (drop 1) e) in
    let k = number_again {E = FormatFault} (ended payload) w64 (2 ^ 64) wide64 payload [] 5 seq fits (ap (drop 5) e ∙ sym (append-nil (to_be_bytes w64 seq))) in
    let end : ltb 13 (length payload) ≡ false = le-ltb 13 (length payload) (omega (arith, ap length e)) in
    rw (m, n, k, end) refl

not_both : {A E : Type 0} (r : Result A E) (a : A) (f : E) → r ≡ Ok a → r ≡ Err f → ⊥
not_both (Ok b) a f p q = cc
not_both (Err g) a f p q = cc

pub asked_none : (payload : List ℕ) (f : FormatFault) → asked_at payload ≡ Err f → IsNoFetching payload
asked_none payload f e = λ channel seq small fits asks. not_both (asked_at payload) (channel, seq) f (asked_again payload channel seq small fits asks) e
