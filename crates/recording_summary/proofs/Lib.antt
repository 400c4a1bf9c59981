mod Announcing
mod Meetings
mod Noting
mod Worked
