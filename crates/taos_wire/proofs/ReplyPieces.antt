-- The bytes of a reply, piece by piece.
use Rattle.std.proofs.Common.{◌≡◌, ℕ, Bool, List, [], ◌∷◌, ◌++◌, Result, Ok, sym, ap, ◌∙◌, subst, append_assoc}
use Rattle.std.specs.Prelude.{Vec}
use Rattle.byte_fields.specs.Appends.{Pushes}
use Rattle.byte_fields.proofs.Pieces.{pushes_then}
use Rattle.stmt_codec.specs.Certificates.{Certificate}
use Rattle.taos_calculus.specs.Rules.{Line}
use Rattle.taos_wire.specs.Reply.{Reply, Granted, answered_bytes, status_of, fields_of, reply_text}

-- the head with its status, and then the fields
pub text_pushes : {Z A B E F : Type 0} (channel seq : ℕ) (r : Reply) (status : ℕ) (old mid new : Vec ℕ Z) (x : A) (result : Result B F) → status ≡ status_of r
    → Pushes {E = E} old mid (answered_bytes channel seq ++ status ∷ []) (Ok x) → Pushes mid new (fields_of r) result → Pushes old new (reply_text channel seq r) result
unfolding reply_text
text_pushes {Z} {A} {B} {E} {F} channel seq r status old mid new x result is first second =
    let head : Pushes {E = E} old mid (answered_bytes channel seq ++ status_of r ∷ []) (Ok x) = subst (λ (s : ℕ). Pushes {E = E} old mid (answered_bytes channel seq ++ s ∷ []) (Ok x)) is first in
    subst (λ (t : List ℕ). Pushes old new t result) (append_assoc (answered_bytes channel seq) (status_of r ∷ []) (fields_of r))
    (pushes_then old mid new (answered_bytes channel seq ++ status_of r ∷ []) (fields_of r) x result head second)

-- a grant of equal parts
pub granted_same : (kept : Bool) (entry shard place : ℕ) (proof other : List Line) (certs more : List Certificate) (content text : List ℕ) (answer : Reply) → proof ≡ other → certs ≡ more → content ≡ text
    → answer ≡ Granted kept entry shard place other more text → Granted kept entry shard place proof certs content ≡ answer
granted_same kept entry shard place proof other certs more content text answer a b c is =
    ap (λ (x : List Line). Granted kept entry shard place x certs content) a ∙ ap (λ (x : List Certificate). Granted kept entry shard place other x content) b
    ∙ ap (λ (x : List ℕ). Granted kept entry shard place other more x) c ∙ sym is
