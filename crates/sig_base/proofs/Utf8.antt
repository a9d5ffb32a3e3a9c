-- Labels and titles are text.
use Rattle.std.proofs.Common.{ℕ, List, ◌<◌, inl, inr, arith}
use Rattle.std.specs.Prelude.{IsUtf8}
use Rattle.std.proofs.lemmas.Str.{IsUtf8-from_ascii}
use Rattle.std.proofs.lemmas.Str.Ascii.{IsAscii-from_all}
use Rattle.sig_base.specs.Text.{IsLabelByte, IsLabel, IsTitle}

label_byte : (byte : ℕ) → IsLabelByte byte → byte < 128
label_byte byte (inl upper) = omega (arith, upper)
label_byte byte (inr (inl lower)) = omega (arith, lower)
label_byte byte (inr (inr (inl digit))) = omega (arith, digit)
label_byte byte (inr (inr (inr (inl line)))) = omega arith
label_byte byte (inr (inr (inr (inr dash)))) = omega arith

pub label_text : (bytes : List ℕ) → IsLabel bytes → IsUtf8 bytes
label_text bytes label = IsUtf8-from_ascii bytes (IsAscii-from_all bytes (λ k d inside. label_byte _ (label.plain k d inside)))

pub title_text : (bytes : List ℕ) → IsTitle bytes → IsUtf8 bytes
title_text bytes title = IsUtf8-from_ascii bytes (IsAscii-from_all bytes (λ k d inside. let plain = title.plain k d inside in omega (arith, plain)))
