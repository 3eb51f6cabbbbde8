-- By which words and with which weight a happening is told, and by which word the kind of a denial's link.
use Rattle.std.specs.Prelude.{ℕ, ◌==◌, if◌then◌else◌, codes, List}
use Rattle.node_telling.specs.declared.texts.notice.Happening.{Happening}
use Rattle.node_telling.specs.declared.texts.notice.Happening.TheVariants.{Replied, NotResealed, Broken, RelayFailed, FetchFailed, ClockFailed, Scarce, Full, Filling}

-- a reply by its status, all else by what it is
abbrev pub word_of : Happening → List ℕ
word_of (Replied front) = if front.head.status == 1 then codes "denied" else codes "refused"
word_of (NotResealed code) = codes "refused"
word_of (Broken why) = codes "broken"
word_of RelayFailed = codes "relay-failed"
word_of FetchFailed = codes "fetch-failed"
word_of ClockFailed = codes "clock-failed"
word_of Scarce = codes "scarce"
word_of Full = codes "full"
word_of (Filling journal entries) = codes "filling"

-- a warning is of what whoever keeps the node can mend; all else comes from who asks
abbrev pub level_of : Happening → List ℕ
level_of (Replied front) = codes "info"
level_of (NotResealed code) = codes "info"
level_of (Broken why) = codes "info"
level_of RelayFailed = codes "warning"
level_of FetchFailed = codes "warning"
level_of ClockFailed = codes "warning"
level_of Scarce = codes "warning"
level_of Full = codes "warning"
level_of (Filling journal entries) = codes "warning"

-- the kind of a link, of 1 to 4
abbrev pub link_word : ℕ → List ℕ
link_word kind =
    if kind == 1 then codes "expired"
    else if kind == 2 then codes "missing"
    else if kind == 3 then codes "no-entry"
    else codes "early"
