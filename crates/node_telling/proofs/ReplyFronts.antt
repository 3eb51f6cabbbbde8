-- The front of a reply says all that is told of it: of a grant its shard and its place, of a denial its link, and why a certificate was refused.
use Rattle.std.proofs.Common.{◌≡◌, ℕ, Bool, ◌<◌, ◌≤◌, List, [], ◌∷◌, ◌++◌, length, drop, Some, refl, ap, ◌∙◌, append_assoc, length-append, arith}
use Rattle.std.specs.Int.{w16, w32, w64, to_be_bytes}
use Rattle.byte_fields.specs.Formats.{u8_in, u32_in, u64_in}
use Rattle.byte_fields.specs.Steps.{counted}
use Rattle.byte_fields.proofs.FieldLaws.{behind}
use Rattle.byte_fields.proofs.FormatFields.{reads_u8, reads_u32, reads_u64}
use Rattle.stmt_codec.specs.Certificates.{Certificate}
use Rattle.stmt_codec.specs.Lists.{cited_bytes}
use Rattle.taos_calculus.specs.Rules.{Line}
use Rattle.taos_calculus.specs.Spelling.{proof_bytes}
use Rattle.taos_wire.specs.Heads.{head_of, read}
use Rattle.taos_wire.specs.Reply.{Reply, Granted, Denied, Malformed, UnknownChannel, BadSeal, Replayed, CertRefused, ChannelFull, RelayFailed, UnknownObject, JournalFull, NoMemory, CommonsFull, NotHeld, WithdrawnFull, PullFailed}
use Rattle.taos_wire.specs.Reply.{LinkSent, Expired, Missing, NoEntry, Early, flag, reply_text, SpellsReply}
use Rattle.prin_term.specs.Principal.{spelling as term_spelling}
use Rattle.node_telling.specs.Replies.{code_at, code_in, front_by, front_with, link_at, link_in, link_kind, told_by, with_grant}

same_first : (x y : ℕ) (xs ys : List ℕ) → x ∷ xs ≡ y ∷ ys → x ≡ y
same_first x y xs ys e = cc (e)

same_rest : (x y : ℕ) (xs ys : List ℕ) → x ∷ xs ≡ y ∷ ys → xs ≡ ys
same_rest x y xs ys e = cc (e)

-- what some bytes begin with, a front of them does that is long enough
begins : (front more text rest : List ℕ) → front ++ more ≡ text ++ rest → length text ≤ length front → front ≡ text ++ drop (length text) front
begins front more [] rest e le = refl
begins [] more (b ∷ text) rest e le = absurd (omega (arith, le))
begins (c ∷ front) more (b ∷ text) rest e le =
    let first : c ≡ b = same_first c b (front ++ more) (text ++ rest) e in
    let tail : front ≡ text ++ drop (length text) front = begins front more text rest (same_rest c b (front ++ more) (text ++ rest) e) (omega (arith, le)) in
    ap (λ (l : List ℕ). c ∷ l) tail ∙ ap (λ (k : ℕ). k ∷ (text ++ drop (length text) front)) first

in_pieces : (v c s k n p x y z tag : List ℕ) → (((v ++ c) ++ s) ++ (k ++ ((((n ++ p) ++ x) ++ y) ++ z))) ++ tag ≡ (v ++ (c ++ (s ++ (k ++ (n ++ p))))) ++ (((x ++ y) ++ z) ++ tag)
in_pieces v c s k n p x y z tag = simp append_assoc

one_by_one : (v c s k n p rest : List ℕ) → (v ++ (c ++ (s ++ (k ++ (n ++ p))))) ++ rest ≡ v ++ (c ++ (s ++ (k ++ (n ++ (p ++ rest)))))
one_by_one v c s k n p rest = simp append_assoc

link_in_pieces : (v c s k n p l x tag : List ℕ) → (((v ++ c) ++ s) ++ (k ++ ((n ++ p) ++ (l ++ x)))) ++ tag ≡ (v ++ (c ++ (s ++ (k ++ (n ++ (p ++ l)))))) ++ (x ++ tag)
link_in_pieces v c s k n p l x tag = simp append_assoc

link_by_link : (v c s k n p l rest : List ℕ) → (v ++ (c ++ (s ++ (k ++ (n ++ (p ++ l)))))) ++ rest ≡ v ++ (c ++ (s ++ (k ++ (n ++ (p ++ (l ++ rest))))))
link_by_link v c s k n p l rest = simp append_assoc

code_in_pieces : (v c s k l tag : List ℕ) → (((v ++ c) ++ s) ++ (k ++ l)) ++ tag ≡ (v ++ (c ++ (s ++ (k ++ l)))) ++ tag
code_in_pieces v c s k l tag = simp append_assoc

code_by_code : (v c s k l rest : List ℕ) → (v ++ (c ++ (s ++ (k ++ l)))) ++ rest ≡ v ++ (c ++ (s ++ (k ++ (l ++ rest))))
code_by_code v c s k l rest = simp append_assoc

module _ (channel seq : ℕ) (front more : List ℕ) where
  -- they stand behind the status, the flag and the entry
  placed : (kept : Bool) (entry shard place : ℕ) (proof : List Line) (certs : List Certificate) (result : List ℕ)
      → SpellsReply channel seq (Granted kept entry shard place proof certs result) (front ++ more) → 28 ≤ length front
      → (read (u32_in front 16) ≡ Some shard) × (read (u64_in front 20) ≡ Some place)
  unfolding reply_text
  placed kept entry shard place proof certs result is enough =
      let v = 4 ∷ [] in
      let c = to_be_bytes w32 channel in
      let s = to_be_bytes w64 seq in
      let k = 0 ∷ flag kept ∷ entry ∷ [] in
      let n = to_be_bytes w32 shard in
      let p = to_be_bytes w64 place in
      let untold = proof_bytes proof ++ cited_bytes certs ++ counted w16 result in
      let text = v ++ (c ++ (s ++ (k ++ (n ++ p)))) in
      let rest = drop (length text) front in
      let whole : front ++ more ≡ text ++ (untold ++ is.tag) = is.text ∙ in_pieces v c s k n p (proof_bytes proof) (cited_bytes certs) (counted w16 result) is.tag in
      let few : length text ≤ length front = omega (arith, enough, length-append c (s ++ (k ++ (n ++ p))), length-append s (k ++ (n ++ p)), length-append n p) in
      let at_0 : drop 0 front ≡ v ++ (c ++ (s ++ (k ++ (n ++ (p ++ rest))))) = begins front more text (untold ++ is.tag) whole few ∙ one_by_one v c s k n p rest in
      let at_1 : drop 1 front ≡ c ++ (s ++ (k ++ (n ++ (p ++ rest)))) = behind front v (c ++ (s ++ (k ++ (n ++ (p ++ rest))))) 0 at_0 in
      let at_5 : drop 5 front ≡ s ++ (k ++ (n ++ (p ++ rest))) = behind front c (s ++ (k ++ (n ++ (p ++ rest)))) 1 at_1 in
      let at_13 : drop 13 front ≡ k ++ (n ++ (p ++ rest)) = behind front s (k ++ (n ++ (p ++ rest))) 5 at_5 in
      let at_16 : drop 16 front ≡ n ++ (p ++ rest) = behind front k (n ++ (p ++ rest)) 13 at_13 in
      let at_20 : drop 20 front ≡ p ++ rest = behind front n (p ++ rest) 16 at_16 in
      (ap read ((reads_u32 front).again 16 shard (p ++ rest) is.limits.shard_fits at_16), ap read ((reads_u64 front).again 20 place rest is.limits.place_fits at_20))

  head_said : (r : Reply) → SpellsReply channel seq r (front ++ more) → 28 ≤ length front → with_grant front (head_of channel seq r) ≡ told_by channel seq r
  unfolding with_grant
  head_said (Granted kept entry shard place proof certs result) is enough =
      let say = placed kept entry shard place proof certs result is enough in
      rw (say.0, say.1) refl
  head_said (Denied shard place link) is enough = refl
  head_said (Malformed offset) is enough = refl
  head_said (UnknownChannel number) is enough = refl
  head_said BadSeal is enough = refl
  head_said (Replayed last) is enough = refl
  head_said (CertRefused index code) is enough = refl
  head_said (ChannelFull held) is enough = refl
  head_said (RelayFailed index) is enough = refl
  head_said (UnknownObject number) is enough = refl
  head_said (JournalFull which number len) is enough = refl
  head_said NoMemory is enough = refl
  head_said (CommonsFull held shard) is enough = refl
  head_said (NotHeld digest) is enough = refl
  head_said (WithdrawnFull held shard) is enough = refl
  head_said PullFailed is enough = refl

  -- the kind of a link stands behind the shard and the place
  kind_at : (shard place kind : ℕ) (x tag : List ℕ) → kind < 256 → 28 ≤ length front
      → front ++ more ≡ (((4 ∷ to_be_bytes w32 channel) ++ to_be_bytes w64 seq) ++ ((1 ∷ []) ++ ((to_be_bytes w32 shard ++ to_be_bytes w64 place) ++ ((kind ∷ []) ++ x)))) ++ tag
      → read (u8_in front 26) ≡ Some kind
  kind_at shard place kind x tag small enough is =
      let v = 4 ∷ [] in
      let c = to_be_bytes w32 channel in
      let s = to_be_bytes w64 seq in
      let k = 1 ∷ [] in
      let n = to_be_bytes w32 shard in
      let p = to_be_bytes w64 place in
      let l = kind ∷ [] in
      let text = v ++ (c ++ (s ++ (k ++ (n ++ (p ++ l))))) in
      let rest = drop (length text) front in
      let whole : front ++ more ≡ text ++ (x ++ tag) = is ∙ link_in_pieces v c s k n p l x tag in
      let few : length text ≤ length front = omega (arith, enough, length-append c (s ++ (k ++ (n ++ (p ++ l)))), length-append s (k ++ (n ++ (p ++ l))), length-append n (p ++ l), length-append p l) in
      let at_0 : drop 0 front ≡ v ++ (c ++ (s ++ (k ++ (n ++ (p ++ (l ++ rest)))))) = begins front more text (x ++ tag) whole few ∙ link_by_link v c s k n p l rest in
      let at_1 : drop 1 front ≡ c ++ (s ++ (k ++ (n ++ (p ++ (l ++ rest))))) = behind front v (c ++ (s ++ (k ++ (n ++ (p ++ (l ++ rest)))))) 0 at_0 in
      let at_5 : drop 5 front ≡ s ++ (k ++ (n ++ (p ++ (l ++ rest)))) = behind front c (s ++ (k ++ (n ++ (p ++ (l ++ rest))))) 1 at_1 in
      let at_13 : drop 13 front ≡ k ++ (n ++ (p ++ (l ++ rest))) = behind front s (k ++ (n ++ (p ++ (l ++ rest)))) 5 at_5 in
      let at_14 : drop 14 front ≡ n ++ (p ++ (l ++ rest)) = behind front k (n ++ (p ++ (l ++ rest))) 13 at_13 in
      let at_18 : drop 18 front ≡ p ++ (l ++ rest) = behind front n (p ++ (l ++ rest)) 14 at_14 in
      let at_26 : drop 26 front ≡ l ++ rest = behind front p (l ++ rest) 18 at_18 in
      ap read ((reads_u8 front).again 26 kind rest small at_26)

  denial_says : (shard place : ℕ) (link : LinkSent) → SpellsReply channel seq (Denied shard place link) (front ++ more) → 28 ≤ length front
      → read (u8_in front 26) ≡ Some (link_kind link)
  unfolding reply_text
  denial_says shard place (Expired entry digest) is enough = kind_at shard place 1 (entry ∷ digest) is.tag (omega arith) enough is.text
  denial_says shard place (Missing entry part) is enough = kind_at shard place 2 (entry ∷ term_spelling part) is.tag (omega arith) enough is.text
  denial_says shard place NoEntry is enough = kind_at shard place 3 [] is.tag (omega arith) enough is.text
  denial_says shard place (Early entry digest) is enough = kind_at shard place 4 (entry ∷ digest) is.tag (omega arith) enough is.text

  -- why a certificate was refused stands behind its index
  refusal_says : (index code : ℕ) → SpellsReply channel seq (CertRefused index code) (front ++ more) → 28 ≤ length front
      → read (u8_in front 15) ≡ Some code
  unfolding reply_text
  refusal_says index code is enough =
      let v = 4 ∷ [] in
      let c = to_be_bytes w32 channel in
      let s = to_be_bytes w64 seq in
      let k = 6 ∷ index ∷ [] in
      let l = code ∷ [] in
      let text = v ++ (c ++ (s ++ (k ++ l))) in
      let rest = drop (length text) front in
      let whole : front ++ more ≡ text ++ is.tag = is.text ∙ code_in_pieces v c s k l is.tag in
      let few : length text ≤ length front = omega (arith, enough, length-append c (s ++ (k ++ l)), length-append s (k ++ l)) in
      let at_0 : drop 0 front ≡ v ++ (c ++ (s ++ (k ++ (l ++ rest)))) = begins front more text is.tag whole few ∙ code_by_code v c s k l rest in
      let at_1 : drop 1 front ≡ c ++ (s ++ (k ++ (l ++ rest))) = behind front v (c ++ (s ++ (k ++ (l ++ rest)))) 0 at_0 in
      let at_5 : drop 5 front ≡ s ++ (k ++ (l ++ rest)) = behind front c (s ++ (k ++ (l ++ rest))) 1 at_1 in
      let at_13 : drop 13 front ≡ k ++ (l ++ rest) = behind front s (k ++ (l ++ rest)) 5 at_5 in
      let at_15 : drop 15 front ≡ l ++ rest = behind front k (l ++ rest) 13 at_13 in
      ap read ((reads_u8 front).again 15 code rest (is.limits.1) at_15)

  link_said : (r : Reply) → SpellsReply channel seq r (front ++ more) → 28 ≤ length front → link_at front (head_of channel seq r) ≡ link_in r
  unfolding link_at
  link_said (Granted kept entry shard place proof certs result) is enough = refl
  link_said (Denied shard place link) is enough = denial_says shard place link is enough
  link_said (Malformed offset) is enough = refl
  link_said (UnknownChannel number) is enough = refl
  link_said BadSeal is enough = refl
  link_said (Replayed last) is enough = refl
  link_said (CertRefused index code) is enough = refl
  link_said (ChannelFull held) is enough = refl
  link_said (RelayFailed index) is enough = refl
  link_said (UnknownObject number) is enough = refl
  link_said (JournalFull which number len) is enough = refl
  link_said NoMemory is enough = refl
  link_said (CommonsFull held shard) is enough = refl
  link_said (NotHeld digest) is enough = refl
  link_said (WithdrawnFull held shard) is enough = refl
  link_said PullFailed is enough = refl

  code_said : (r : Reply) → SpellsReply channel seq r (front ++ more) → 28 ≤ length front → code_at front (head_of channel seq r) ≡ code_in r
  unfolding code_at
  code_said (Granted kept entry shard place proof certs result) is enough = refl
  code_said (Denied shard place link) is enough = refl
  code_said (Malformed offset) is enough = refl
  code_said (UnknownChannel number) is enough = refl
  code_said BadSeal is enough = refl
  code_said (Replayed last) is enough = refl
  code_said (CertRefused index code) is enough = refusal_says index code is enough
  code_said (ChannelFull held) is enough = refl
  code_said (RelayFailed index) is enough = refl
  code_said (UnknownObject number) is enough = refl
  code_said (JournalFull which number len) is enough = refl
  code_said NoMemory is enough = refl
  code_said (CommonsFull held shard) is enough = refl
  code_said (NotHeld digest) is enough = refl
  code_said (WithdrawnFull held shard) is enough = refl
  code_said PullFailed is enough = refl

  pub front_said : (r : Reply) → SpellsReply channel seq r (front ++ more) → 28 ≤ length front → front_with front (head_of channel seq r) ≡ front_by channel seq r
  front_said r is enough = rw (head_said r is enough, link_said r is enough, code_said r is enough) refl
