-- The front of a reply says what the reply says.
use Rattle.std.proofs.Common.{◌≡◌, ℕ, ◌<◌, ◌≤◌, ◌^◌, cond, eqb, List, [], ◌∷◌, ◌++◌, length, drop, Ok, Some, None, refl, sym, ap, ◌∙◌, append_assoc, append-nil, length-append, arith}
use Rattle.std.specs.Int.{w32, w64, to_be_bytes}
use Rattle.byte_fields.specs.Formats.{u8_in, u32_in, u64_in}
use Rattle.byte_fields.proofs.FieldLaws.{behind}
use Rattle.byte_fields.proofs.FormatFields.{reads_u8, reads_u32, reads_u64}
use Rattle.taos_wire.specs.Heads.{head_at, head_of, read, shard_at, shard_in, place_in, unknown_in}
use Rattle.taos_wire.specs.Reply.{Reply, Granted, Denied, Malformed, UnknownChannel, BadSeal, Replayed, CertRefused, ChannelFull, RelayFailed, UnknownObject, JournalFull, NoMemory, CommonsFull, NotHeld, WithdrawnFull, PullFailed}
use Rattle.taos_wire.proofs.ReplyFields.{status_stands}
use Rattle.taos_wire.specs.Reply.{answered_bytes, fields_of, link_bytes, reply_text, status_of, FitsReply, SpellsReply}

same_first : (x y : ℕ) (xs ys : List ℕ) → x ∷ xs ≡ y ∷ ys → x ≡ y
same_first x y xs ys e = cc (e)

same_rest : (x y : ℕ) (xs ys : List ℕ) → x ∷ xs ≡ y ∷ ys → xs ≡ ys
same_rest x y xs ys e = cc (e)

-- what some bytes begin with, a front of them does that is long enough
begins : (front more text rest : List ℕ) → front ++ more ≡ text ++ rest → length text ≤ length front → front ≡ text ++ drop (length text) front
begins front more [] rest e le = refl
begins [] more (b ∷ text) rest e le = absurd (omega (arith, le))
begins (c ∷ front) more (b ∷ text) rest e le =
    let first : c ≡ b = same_first c b (front ++ more) (text ++ rest) e in
    let tail : front ≡ text ++ drop (length text) front = begins front more text rest (same_rest c b (front ++ more) (text ++ rest) e) (omega (arith, le)) in
    ap (λ (l : List ℕ). c ∷ l) tail ∙ ap (λ (k : ℕ). k ∷ (text ++ drop (length text) front)) first

-- the fields, or the front of them, that a head is read from
abbrev told : Reply → List ℕ
told (Denied shard place link) = to_be_bytes w32 shard ++ to_be_bytes w64 place
told (UnknownChannel number) = to_be_bytes w32 number
told (JournalFull which number len) = which ∷ to_be_bytes w32 number
told (CommonsFull held shard) = held ∷ to_be_bytes w32 shard
told (WithdrawnFull held shard) = held ∷ to_be_bytes w32 shard
told _ = []

abbrev untold : Reply → List ℕ
untold (Denied shard place link) = link_bytes link
untold (UnknownChannel number) = []
untold (JournalFull which number len) = to_be_bytes w64 len
untold (CommonsFull held shard) = []
untold (WithdrawnFull held shard) = []
untold r = fields_of r

told_first : (r : Reply) → (fields_of r ≡ told r ++ untold r) × (length (told r) ≤ 13)
told_first (Granted kept entry shard place proof certs result) = (refl, omega arith)
told_first (Denied shard place link) = (refl, omega arith)
told_first (Malformed offset) = (refl, omega arith)
told_first (UnknownChannel number) = (sym (append-nil (to_be_bytes w32 number)), omega arith)
told_first BadSeal = (refl, omega arith)
told_first (Replayed last) = (refl, omega arith)
told_first (CertRefused index code) = (refl, omega arith)
told_first (ChannelFull held) = (refl, omega arith)
told_first (RelayFailed index) = (refl, omega arith)
told_first (UnknownObject number) = (refl, omega arith)
told_first (JournalFull which number len) = (refl, omega arith)
told_first NoMemory = (refl, omega arith)
told_first (CommonsFull held shard) = (sym (append-nil (held ∷ to_be_bytes w32 shard)), omega arith)
told_first (NotHeld digest) = (refl, omega arith)
told_first (WithdrawnFull held shard) = (sym (append-nil (held ∷ to_be_bytes w32 shard)), omega arith)
told_first PullFailed = (refl, omega arith)

in_pieces : (v c s k told more tag : List ℕ) → (((v ++ c) ++ s) ++ (k ++ (told ++ more))) ++ tag ≡ (v ++ (c ++ (s ++ (k ++ told)))) ++ (more ++ tag)
in_pieces v c s k told more tag = simp append_assoc

one_by_one : (v c s k told rest : List ℕ) → (v ++ (c ++ (s ++ (k ++ told)))) ++ rest ≡ v ++ (c ++ (s ++ (k ++ (told ++ rest))))
one_by_one v c s k told rest = simp append_assoc

module _ (front : List ℕ) where
  -- what the fields say, where they stand behind the status
  fields_say : (r : Reply) (rest : List ℕ) → FitsReply r → drop 14 front ≡ told r ++ rest
      → (shard_at front (status_of r) ≡ shard_in r) × (cond (eqb (status_of r) 1) (read (u64_in front 18)) None ≡ place_in r) × (cond (eqb (status_of r) 3) (read (u32_in front 14)) None ≡ unknown_in r)
  unfolding shard_at
  fields_say (Denied shard place link) rest fits e =
      let first : drop 14 front ≡ to_be_bytes w32 shard ++ (to_be_bytes w64 place ++ rest) = e ∙ append_assoc (to_be_bytes w32 shard) (to_be_bytes w64 place) rest in
      let second : drop 18 front ≡ to_be_bytes w64 place ++ rest = behind front (to_be_bytes w32 shard) (to_be_bytes w64 place ++ rest) 14 first in
      (ap read ((reads_u32 front).again 14 shard (to_be_bytes w64 place ++ rest) fits.0 first), ap read ((reads_u64 front).again 18 place rest fits.1 second), refl)
  fields_say (UnknownChannel number) rest fits e = (refl, refl, ap read ((reads_u32 front).again 14 number rest fits e))
  fields_say (JournalFull which number len) rest fits e =
      let byte : u8_in front 14 ≡ Ok (which, 15) = (reads_u8 front).again 14 which (to_be_bytes w32 number ++ rest) (omega (arith, fits.0)) e in
      let after : drop 15 front ≡ to_be_bytes w32 number ++ rest = behind front (which ∷ []) (to_be_bytes w32 number ++ rest) 14 e in
      (rw (byte, (reads_u32 front).again 15 number rest fits.1 after) refl, refl, refl)
  fields_say (CommonsFull held shard) rest fits e =
      let after : drop 15 front ≡ to_be_bytes w32 shard ++ rest = behind front (held ∷ []) (to_be_bytes w32 shard ++ rest) 14 e in
      (ap read ((reads_u32 front).again 15 shard rest fits.1 after), refl, refl)
  fields_say (WithdrawnFull held shard) rest fits e =
      let after : drop 15 front ≡ to_be_bytes w32 shard ++ rest = behind front (held ∷ []) (to_be_bytes w32 shard ++ rest) 14 e in
      (ap read ((reads_u32 front).again 15 shard rest fits.1 after), refl, refl)
  fields_say (Granted kept entry shard place proof certs result) rest fits e = (refl, refl, refl)
  fields_say (Malformed offset) rest fits e = (refl, refl, refl)
  fields_say BadSeal rest fits e = (refl, refl, refl)
  fields_say (Replayed last) rest fits e = (refl, refl, refl)
  fields_say (CertRefused index code) rest fits e = (refl, refl, refl)
  fields_say (ChannelFull held) rest fits e = (refl, refl, refl)
  fields_say (RelayFailed index) rest fits e = (refl, refl, refl)
  fields_say (UnknownObject number) rest fits e = (refl, refl, refl)
  fields_say NoMemory rest fits e = (refl, refl, refl)
  fields_say (NotHeld digest) rest fits e = (refl, refl, refl)
  fields_say PullFailed rest fits e = absurd fits

  head_says : (channel seq : ℕ) (r : Reply) (rest : List ℕ) → channel < 2 ^ 32 → seq < 2 ^ 64 → FitsReply r
      → drop 0 front ≡ (4 ∷ []) ++ (to_be_bytes w32 channel ++ (to_be_bytes w64 seq ++ ((status_of r ∷ []) ++ (told r ++ rest))))
      → head_at front ≡ Some (head_of channel seq r)
  unfolding head_at
  head_says channel seq r rest channel_fits seq_fits fits e =
      let last = told r ++ rest in
      let from_status = (status_of r ∷ []) ++ last in
      let from_seq = to_be_bytes w64 seq ++ from_status in
      let from_channel = to_be_bytes w32 channel ++ from_seq in
      let version : u8_in front 0 ≡ Ok (4, 1) = (reads_u8 front).again 0 4 from_channel (omega arith) e in
      let at_1 : drop 1 front ≡ from_channel = behind front (4 ∷ []) from_channel 0 e in
      let channel_is : u32_in front 1 ≡ Ok (channel, 5) = (reads_u32 front).again 1 channel from_seq channel_fits at_1 in
      let at_5 : drop 5 front ≡ from_seq = behind front (to_be_bytes w32 channel) from_seq 1 at_1 in
      let seq_is : u64_in front 5 ≡ Ok (seq, 13) = (reads_u64 front).again 5 seq from_status seq_fits at_5 in
      let at_13 : drop 13 front ≡ from_status = behind front (to_be_bytes w64 seq) from_status 5 at_5 in
      let status_is : u8_in front 13 ≡ Ok (status_of r, 14) = (reads_u8 front).again 13 (status_of r) last (status_stands r fits).0 at_13 in
      let at_14 : drop 14 front ≡ last = behind front (status_of r ∷ []) last 13 at_13 in
      let say = fields_say r rest fits at_14 in
      rw (version, channel_is, seq_is, status_is, say.0, say.1, say.2) refl

pub reply_said : (channel seq : ℕ) (r : Reply) (front more : List ℕ) → SpellsReply channel seq r (front ++ more) → 27 ≤ length front → head_at front ≡ Some (head_of channel seq r)
unfolding reply_text
reply_said channel seq r front more is enough =
    let c = to_be_bytes w32 channel in
    let s = to_be_bytes w64 seq in
    let k = status_of r ∷ [] in
    let text = (4 ∷ []) ++ (c ++ (s ++ (k ++ told r))) in
    let by_fields : (answered_bytes channel seq ++ status_of r ∷ fields_of r) ++ is.tag ≡ (((4 ∷ c) ++ s) ++ (k ++ (told r ++ untold r))) ++ is.tag = ap (λ (l : List ℕ). (answered_bytes channel seq ++ status_of r ∷ l) ++ is.tag) (told_first r).0 in
    let whole : front ++ more ≡ text ++ (untold r ++ is.tag) = is.text ∙ by_fields ∙ in_pieces (4 ∷ []) c s k (told r) (untold r) is.tag in
    let few : length text ≤ length front = omega (arith, enough, (told_first r).1, length-append c (s ++ (k ++ told r)), length-append s (k ++ told r)) in
    let rest = drop (length text) front in
    head_says front channel seq r rest is.channel_fits is.seq_fits is.limits (begins front more text (untold r ++ is.tag) whole few ∙ one_by_one (4 ∷ []) c s k (told r) rest)
