mod SameValuesLaws
mod Vectors
mod Noted
mod MemberValues
mod MirrorValues
