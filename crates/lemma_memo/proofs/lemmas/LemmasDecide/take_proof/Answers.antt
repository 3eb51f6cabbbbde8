use Rattle.std.proofs.Common.{◌∙◌, ap, sym, subst}
use Rattle.std.specs.Prelude.{IfOk, Ok}
use Rattle.std.specs.declared.alloc.AllocError.{AllocError}
use Rattle.prin_term.specs.View.{principal}
use Rattle.taos_calculus.specs.Question.{Question, IsProofOf}
use Rattle.taos_calculus.specs.Tables.{lines_of}
use Rattle.lemma_memo.specs.Memory.{Memo, Remembers}
use Rattle.lemma_memo.specs.Question.{FitsQuestion, Keeps}
use Rattle.lemma_memo.proofs.Again.{tells_sound, recall_means, recall_none, no_proof, keep_means, not_looked}
use Rattle.lemma_memo.proofs.lemmas.LemmasDecide.take_proof.Goals as goal

-- where no lemma is looked for the inner one answers
pub invariant_of-self : goal.invariant_of-self
invariant_of-self g c = subst (λ (r : Question). FitsQuestion r c.self.inside.memory) (sym c.take_proof.ensures.same) c.self.invariant

pub returns-then-not-looks-clause-remembers : goal.returns-then-not-looks-clause-remembers
returns-then-not-looks-clause-remembers g c =
    let left = principal c.args.left.now in
    let right = principal c.args.right.now in
    subst (λ (m : Memo). Remembers {E = AllocError} m left right c.self.inside.memory c.take_proof.result) (ap (λ r. r.memo) c.self.view_is)
    (not_looked c.self.inside.memory left right c.take_proof.result (sym c.looks.ensures ∙ c.if-not-looks.true))

pub invariant_of-self-in-Some : goal.invariant_of-self-in-Some
invariant_of-self-in-Some g c =
    (recall_means (g.D.Decide.question c.self.inside.inner) c.self.inside.memory c.self.invariant (principal c.args.left.now) (principal c.args.right.now) c.in-Some.ensures).1

pub returns-in-Some-clause-taken : goal.returns-in-Some-clause-taken
returns-in-Some-clause-taken g c =
    let left = principal c.args.left.now in
    let right = principal c.args.right.now in
    let means = recall_means (g.D.Decide.question c.self.inside.inner) c.self.inside.memory c.self.invariant left right c.in-Some.ensures in
    subst (λ d. IfOk c.in-Some.told (λ t. IsProofOf (g.D.Decide.question d) left right (lines_of t.proof) t.cites.items)) (ap (λ r. r.inner) c.self.view_is) means.2

pub returns-in-Some-clause-remembers : goal.returns-in-Some-clause-remembers
returns-in-Some-clause-remembers g c =
    let left = principal c.args.left.now in
    let right = principal c.args.right.now in
    let means = recall_means (g.D.Decide.question c.self.inside.inner) c.self.inside.memory c.self.invariant left right c.in-Some.ensures in
    subst (λ (m : Memo). Remembers {E = AllocError} m left right c.recall.new.self c.in-Some.told) (ap (λ r. r.memo) c.self.view_is) means.0

-- without a lemma the memory is as it was
pub invariant_of-self-in_err-taken : goal.invariant_of-self-in_err-taken
invariant_of-self-in_err-taken g c =
    let q = g.D.Decide.question c.self.inside.inner in
    let none = recall_none q c.self.inside.memory c.self.invariant (principal c.args.left.now) (principal c.args.right.now) c.recall.result c.in_default.not-Some c.recall.ensures in
    subst (λ (r : Question). FitsQuestion r c.recall.new.self) (sym c.take_proof-2.ensures.same) (subst (FitsQuestion q) (sym none.0) c.self.invariant)

pub returns-in_err-taken-clause-remembers : goal.returns-in_err-taken-clause-remembers
returns-in_err-taken-clause-remembers g c =
    let left = principal c.args.left.now in
    let right = principal c.args.right.now in
    let q = g.D.Decide.question c.self.inside.inner in
    let memory = c.self.inside.memory in
    let none = recall_none q memory c.self.invariant left right c.recall.result c.in_default.not-Some c.recall.ensures in
    let stays = no_proof q memory c.self.invariant left right c.from_residual.result c.from_residual.ensures.0 in
    subst (λ (m : Memo). Remembers {E = AllocError} m left right c.recall.new.self c.from_residual.result) (ap (λ r. r.memo) c.self.view_is)
    (subst (λ (m : Memo). Remembers {E = AllocError} memory left right m c.from_residual.result) (sym none.0) stays)

pub keep-requires : goal.keep-requires
keep-requires g c =
    let q = g.D.Decide.question c.self.inside.inner in
    let left = principal c.args.left.now in
    let right = principal c.args.right.now in
    let none = recall_none q c.self.inside.memory c.self.invariant left right c.recall.result c.in_default.not-Some c.recall.ensures in
    tells_sound q c.recall.new.self left right c.in_ok-taken.taken (subst (FitsQuestion q) (sym none.0) c.self.invariant) c.in_ok-taken.ensures.taken

pub invariant_of-self-2 : goal.invariant_of-self-2
invariant_of-self-2 g c =
    let q = g.D.Decide.question c.self.inside.inner in
    let left = principal c.args.left.now in
    let right = principal c.args.right.now in
    let none = recall_none q c.self.inside.memory c.self.invariant left right c.recall.result c.in_default.not-Some c.recall.ensures in
    let kept = subst (λ (m : Memo). Keeps m left right c.in_ok-taken.taken c.keep.new.self) none.0 c.keep.ensures in
    subst (λ (r : Question). FitsQuestion r c.keep.new.self) (sym c.take_proof-2.ensures.same) (keep_means q c.self.inside.memory c.self.invariant left right {E = AllocError} none.1 kept).1

pub returns-clause-remembers : goal.returns-clause-remembers
returns-clause-remembers g c =
    let q = g.D.Decide.question c.self.inside.inner in
    let left = principal c.args.left.now in
    let right = principal c.args.right.now in
    let none = recall_none q c.self.inside.memory c.self.invariant left right c.recall.result c.in_default.not-Some c.recall.ensures in
    let kept = subst (λ (m : Memo). Keeps m left right c.in_ok-taken.taken c.keep.new.self) none.0 c.keep.ensures in
    subst (λ (m : Memo). Remembers {E = AllocError} m left right c.keep.new.self (Ok c.in_ok-taken.taken)) (ap (λ r. r.memo) c.self.view_is)
    (keep_means q c.self.inside.memory c.self.invariant left right {E = AllocError} none.1 kept).0
