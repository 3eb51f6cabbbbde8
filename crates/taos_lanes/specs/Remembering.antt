-- What a lane's decider begins with.
use Rattle.std.specs.Prelude.{ℕ, min, List, take}
use Rattle.lemma_memo.specs.Memory.{Memo, empty_memo}
use Rattle.lemma_memo.specs.declared.memory.TheConstants.{MAX_LEMMAS}
use Rattle.prin_term.specs.declared.term.Anchor.{Anchor}
use Rattle.stmt_codec.specs.Certificates.{Certificate}
use Rattle.stmt_codec.specs.View.{certificates}
use Rattle.taos_calculus.specs.declared.decide.TheConstants.{MAX_CERTS}
use Rattle.taos_lanes.specs.declared.bench.Memos.{Memos}

-- a memory of nothing, with room for so many lemmas from these, as far as there may be
abbrev pub new_memo : ℕ → List Anchor → List Certificate → Memo
new_memo lemmas anchors commons =
    empty_memo (min lemmas MAX_LEMMAS) anchors (take MAX_CERTS commons)

-- what each lane gets
abbrev pub memo_of : Memos → Memo
memo_of m = new_memo m.lemmas m.anchors.value.items (certificates m.commons.items)
