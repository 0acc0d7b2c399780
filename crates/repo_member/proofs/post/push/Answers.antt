use Rattle.std.proofs.Common.{◌-◌, length, drop, get_or, arith, ◌≡◌, ◌++◌, ◌∷◌, [], List, cond, sym, ap, ◌∙◌, subst}
use Rattle.std.specs.Prelude.{is_ok}
use Rattle.std.proofs.lemmas.List.{length-set, take_at}
use Rattle.repo_member.specs.declared.post.Post.{Post}
use Rattle.repo_member.specs.declared.post.Post.TheVariants.{Withdrawal}
use Rattle.repo_member.specs.Posts.{posts_of, IsKeptLog, marked, with_mark}
use Rattle.repo_member.proofs.PostLemmas.{marks, posts_more, kept_more}
use Rattle.repo_member.proofs.post.push.Goals.{in-Withdrawal, in_default}
use Rattle.repo_member.proofs.post.push.Goals as goal

marked_is : (c : goal.After-unwrap) → c.match-post.log.items ≡ marks c.args.post c.args.log.now.items
marked_is c = elim c.match-post.branch [
  | in-Withdrawal w ↦
      let seq = w.in-Withdrawal.seq in
      let lent = w.deref_mut.ensures.value in
      let is = w.mark.ensures in
      let long : c.args.log.now.len ≡ length w.mark.new.log =
      omega (
        arith,
        c.args.log.now.ok,
        ap (λ (log : List Post). length log) is,
        length-set w.deref_mut.result.now (seq - 1) (marked (get_or w.deref_mut.result.now (seq - 1) (Withdrawal 0))),
        ap (λ (log : List Post). length log) lent,
      ) in
      ap (λ v. v.items) w.log-is
      ∙ take_at w.mark.new.log (drop (length w.mark.new.log) c.args.log.now.items) c.args.log.now.len (sym long)
      ∙ is
      ∙ ap (with_mark w.in-Withdrawal.seq) w.deref_mut.ensures.value
      ∙ ap (λ (p : Post). marks p c.args.log.now.items) (sym w.in-Withdrawal.is)
  | in_default w ↦ ap (λ v. v.items) w.log-is ∙ ap (λ (p : Post). marks p c.args.log.now.items) (sym w.in_default.is)
]

pushed : (c : goal.After-unwrap) → c.push.new.self.items ≡ marks c.args.post c.args.log.now.items ++ c.args.post ∷ []
pushed c =
    c.push.ensures.items
    ∙ ap (λ r. cond (is_ok r) (c.match-post.log.items ++ c.args.post ∷ []) c.match-post.log.items) c.unwrap.ensures
    ∙ ap (λ (log : List Post). log ++ c.args.post ∷ []) (marked_is c)

pub returns-clause-posts : goal.returns-clause-posts
returns-clause-posts c = ap posts_of (pushed c) ∙ posts_more c.args.log.now.items c.args.post

pub returns-clause-log : goal.returns-clause-log
returns-clause-log c =
    subst IsKeptLog (sym (pushed c))
    (kept_more c.args.log.now.items c.args.post c.requires.log c.requires.new c.requires.post)
