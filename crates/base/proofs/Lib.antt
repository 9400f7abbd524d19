mod Joints
