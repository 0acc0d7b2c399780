-- How many octets a reply has: fewer than a packet may have.
use Rattle.std.proofs.Common.{ℕ, ◌≤◌, List, [], ◌++◌, length, length-append, None, ◌≡◌, arith}
use Rattle.ndn_tlv.specs.Spelling.{element}
use Rattle.ndn_name.specs.Names.{Component, encoding}
use Rattle.ndn_sign.specs.Hmac.{hmac}
use Rattle.ndn_packet.specs.Written.{written_info}
use Rattle.ndn_data.proofs.WriteLemmas.{length-mac_element}
use Rattle.ndn_data.specs.WrittenData.{written_signed, written_data}
use Rattle.repo_object.proofs.Sizes.{element-at_most}
use Rattle.repo_command.specs.declared.answer.Answer.{Answer}
use Rattle.repo_command.specs.Answers.{written_answer}
use Rattle.repo_command.proofs.LengthLemmas.{info-size, answer-size}

pub reply-size : (name : List Component) (answer : Answer) (key_name : List Component) (key : List ℕ)
    → length (encoding name) ≤ 1000 → length (encoding key_name) ≤ 205
    → length (written_data name None (written_answer answer) key_name key) ≤ 8800
reply-size name answer key_name key short short_key =
    let content = written_answer answer in
    let first = element 0x07 (encoding name) in
    let second = element 0x15 content in
    let third = element 0x16 (written_info key_name) in
    let portion = written_signed name None content key_name in
    let mac = element 0x17 (hmac key portion) in
    let info = info-size key_name short_key in
    let given = answer-size answer in
    let a = element-at_most 0x07 (encoding name) (omega arith) (omega (arith, short)) in
    let b = element-at_most 0x15 content (omega arith) (omega (arith, given)) in
    let d = element-at_most 0x16 (written_info key_name) (omega arith) (omega (arith, info)) in
    let long : length portion ≤ 1300 =
    omega (
      arith,
      short,
      info,
      given,
      a,
      b,
      d,
      length-append ((first ++ []) ++ second) third,
      length-append (first ++ []) second,
      length-append first [],
    ) in
    let body = length-append portion mac in
    let mac_size : length mac ≡ 34 = length-mac_element 0x17 key portion in
    omega (
      arith,
      long,
      body,
      mac_size,
      element-at_most 0x06 (portion ++ mac) (omega arith) (omega (arith, long, body, mac_size)),
    )
