use Rattle.std.proofs.Common.{◌≡◌, ◌<◌, length, sym, ap, ◌∙◌, rules}
use Rattle.ndn_name.specs.UriText.{without_scheme}
use Rattle.ndn_name.proofs.SizeLemmas.{scheme-is, text_size, text_size-none, text_size-path, text_size-root}
use Rattle.ndn_name.proofs.uri_size.plain_uri_len.Goals as goal

pub returns-in_err-path : goal.returns-in_err-path
returns-in_err-path c =
    let text = c.as_bytes-text.result in
    let rooted = c.unwrap_or.result.now in
    let e : rooted ≡ without_scheme text.now =
    rw c.unwrap_or.ensures (scheme-is c.after_scheme.result text c.after_scheme.ensures) in
    rw c.from_residual.ensures
    (sym (ap text_size (sym c.as_bytes-text.ensures.value) ∙ text_size-none text.now rooted e c.in_err-path.ensures))

pub returns-then-is_empty : goal.returns-then-is_empty
returns-then-is_empty c =
    let text = c.as_bytes-text.result in
    let rooted = c.unwrap_or.result.now in
    let path = c.in_ok-path.path.now in
    let e : rooted ≡ without_scheme text.now =
    rw c.unwrap_or.ensures (scheme-is c.after_scheme.result text c.after_scheme.ensures) in
    let none : length path ≡ 0 = search rules in
    sym
    (ap text_size (sym c.as_bytes-text.ensures.value) ∙ text_size-root text.now rooted path e c.in_ok-path.ensures none)

pub returns : goal.returns
returns c =
    let text = c.as_bytes-text.result in
    let rooted = c.unwrap_or.result.now in
    let path = c.in_ok-path.path.now in
    let e : rooted ≡ without_scheme text.now =
    rw c.unwrap_or.ensures (scheme-is c.after_scheme.result text c.after_scheme.ensures) in
    let some : 0 < length path = search rules in
    c.path_len.ensures
    ∙ sym
    (ap text_size (sym c.as_bytes-text.ensures.value) ∙ text_size-path text.now rooted path e c.in_ok-path.ensures some)
